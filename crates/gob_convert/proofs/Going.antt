-- A record on its way through a list of converters.
use Rattle.std.proofs.Common.{◌≡◌, ℕ, suc, ◌+◌, ◌<◌, Bool, true, List, [], ◌∷◌, length, get_or, drop, None, Some, refl}
use Rattle.std.proofs.Common.{sym, ap, ◌∙◌, subst, add-one}
use Rattle.std.proofs.Math.Bool.{Bool-set}
use Rattle.std.proofs.Math.Logic.{∥∥₁_elim, ∥∥₁_map}
use Rattle.std.proofs.Math.Seq.{drop-cons}
use Rattle.std.specs.Cmp.Derive.{both_true}
use Rattle.std.specs.List.{list_all}
use Rattle.gob_convert.specs.Made.{Made, made_each, then_each, all_made, made_through, FitTogether}
use Rattle.gob_convert.specs.Fitting.{all_made-each}
use Rattle.gob_convert.proofs.MadeLemmas.{made_each-then_each, made_each-same, made_each-one, list_all-of_made}

-- these records were made so far, and what the converters that are left make of them is the whole
pub record Going {C S R : Type 0} (fits : S → R → Bool) (shape_of out_shape : C → S) (made : C → R → Made R)
    (cs : List C) (xs : List R) (whole : Made R) : Type 0 where
  pub shape : S
  pub follow : ∥ FitTogether shape_of out_shape shape cs ∥₁
  pub fit : list_all (fits shape) xs ≡ true
  pub left : made_each (made_through made cs) xs ≡ whole

module _ {C S R : Type 0} (fits : S → R → Bool) (shape_of out_shape : C → S) (made : C → R → Made R) where
  abbrev OnTheWay : List C → List R → Made R → Type 0
  OnTheWay = Going fits shape_of out_shape made

  pub going_from : (shape : S) (cs : List C) (x : R) → ∥ FitTogether shape_of out_shape shape cs ∥₁ →
      fits shape x ≡ true → OnTheWay cs (x ∷ []) (made_through made cs x)
  going_from shape cs x follow fit =
      record { shape = shape; follow = follow; fit = both_true fit refl; left = made_each-one (made_through made cs) x }

  -- the next converter, by its index
  pub going_at : (cs : List C) (i : ℕ) (c : C) (xs : List R) (whole : Made R) → i < length cs → c ≡ get_or cs i c →
      OnTheWay (drop i cs) xs whole → OnTheWay (c ∷ drop (i + 1) cs) xs whole
  going_at cs i c xs whole within is going = let P : List C →
      Type 0 = λ ds. OnTheWay ds xs whole in subst P
      (rw add-one (drop-cons cs i c within ∙ ap (λ d. d ∷ drop (suc i) cs) (sym is))) going

  pub going_fits : (c : C) (cs : List C) (xs : List R) (whole : Made R) → OnTheWay (c ∷ cs) xs whole →
      list_all (fits (shape_of c)) xs ≡ true
  going_fits c cs xs whole going = ∥∥₁_elim going.follow (Bool-set _ _)
      (λ follow. let P : S → Type 0 = λ s. list_all (fits s) xs ≡ true in subst P (sym follow.0) going.fit)

  whole_of : (c : C) (cs : List C) (xs : List R) (whole : Made R) → OnTheWay (c ∷ cs) xs whole →
      whole ≡ then_each (made_through made cs) (made_each (made c) xs)
  whole_of c cs xs whole going = sym going.left ∙ made_each-then_each (made c) (made_through made cs) xs

  pub going_on : (out_fits : S → R → Bool) (same : (s : S) (x : R) → fits s x ≡ out_fits s x) (c : C)
      (keeps : (x : R) → fits (shape_of c) x ≡ true → all_made (out_fits (out_shape c)) (made c x) ≡ true) (cs : List C)
      (xs ys : List R) (whole : Made R) → OnTheWay (c ∷ cs) xs whole → made_each (made c) xs ≡ Some ys →
      OnTheWay cs ys whole
  going_on out_fits same c keeps cs xs ys whole going made_now = record {
    shape = out_shape c;
    follow = ∥∥₁_map going.follow (λ follow. follow.1);
    fit = list_all-of_made (out_fits (out_shape c)) (fits (out_shape c)) (λ x h. same (out_shape c) x ∙ h)
        (made_each (made c) xs) ys made_now
        (all_made-each (fits (shape_of c)) (out_fits (out_shape c)) (made c) keeps xs
        (going_fits c cs xs whole going));
    left = sym (whole_of c cs xs whole going ∙ ap (then_each (made_through made cs)) made_now);
  }

  pub going_bad : (c : C) (cs : List C) (xs : List R) (whole : Made R) → OnTheWay (c ∷ cs) xs whole →
      made_each (made c) xs ≡ None → whole ≡ None
  going_bad c cs xs whole going bad = whole_of c cs xs whole going ∙ ap (then_each (made_through made cs)) bad

  pub going_done : (xs : List R) (whole : Made R) → OnTheWay [] xs whole → whole ≡ Some xs
  going_done xs whole going = sym going.left ∙ made_each-same xs
