-- Values that are moved out of a row, one place after the other.
use Rattle.std.proofs.Common.{◌≡◌, ℕ, ◌+◌, ◌<◌, ◌≤◌, Bool, true, false, not, ◌&&◌, ◌||◌, nat_eq, nat_lt, List, [], ◌∷◌}
use Rattle.std.proofs.Common.{◌++◌, length, get_or, set, drop, refl, ap, sym, subst, ◌∙◌}
use Rattle.std.specs.List.{list_all}
use Rattle.std.proofs.lemmas.Bool.{and_parts, ltb-true, eqb-false, not-true}
use Rattle.std.proofs.lemmas.List.{drop_more, drop_all, get_or-set_other, get_or_default, append_assoc, length-set}
use Rattle.std.proofs.lemmas.List.{append-nil}
use Rattle.gob_plan.specs.declared.rows.Value.{Value}
use Rattle.gob_plan.specs.declared.rows.Value.TheVariants as value
use Rattle.gob_meaning.proofs.PlainLines.{or_parts}
use Rattle.gob_steps.specs.Places.{values_at, is_below, is_place_among, are_apart}

-- what is put at another place changes nothing at these
untouched : (k : ℕ) (ks : List ℕ) (values : List Value) (w : Value) → is_place_among k ks ≡ false
    → values_at ks (set values k w) ≡ values_at ks values
untouched k [] values w apart = refl
untouched k (j ∷ ks) values w apart =
    let parts = or_parts (nat_eq j k) (is_place_among k ks) apart in
    (λ i. get_or-set_other values k j w value.Null (eqb-false j k parts.0) i ∷ untouched k ks values w parts.1 i)

-- the next place
pub record NextPlace (places : List ℕ) (i k : ℕ) (values : List Value) : Type 0 where
  pub within : k < length values
  pub below : list_all (is_below (length values)) (drop (i + 1) places) ≡ true
  pub apart : are_apart (drop (i + 1) places) ≡ true
  pub left : (w : Value) (done whole : List Value) → done ++ values_at (drop i places) values ≡ whole
      → (done ++ get_or values k value.Null ∷ []) ++ values_at (drop (i + 1) places) (set values k w) ≡ whole

pub next_place : (places : List ℕ) (i k : ℕ) (values : List Value) → i < length places → k ≡ get_or places i 0
    → list_all (is_below (length values)) (drop i places) ≡ true → are_apart (drop i places) ≡ true
    → NextPlace places i k values
next_place places i k values inside is below apart =
    let rest = drop (i + 1) places in
    let next : drop i places ≡ k ∷ rest = drop_more places i 0 inside ∙ ap (λ j. j ∷ rest) (sym is) in
    let fits = and_parts (is_below (length values) k) (list_all (is_below (length values)) rest)
    (sym (ap (list_all (is_below (length values))) next) ∙ below) in
    let alone = and_parts (not (is_place_among k rest)) (are_apart rest) (sym (ap are_apart next) ∙ apart) in
    record {
      within = ltb-true k (length values) fits.0;
      below = fits.1;
      apart = alone.1;
      left = λ w done whole so_far.
          append_assoc done (get_or values k value.Null ∷ []) (values_at rest (set values k w))
          ∙ ap (λ vs. done ++ get_or values k value.Null ∷ vs)
          (untouched k rest values w (not-true (is_place_among k rest) alone.0))
          ∙ sym (ap (λ ks. done ++ values_at ks values) next) ∙ so_far;
    }

-- none is left
pub all_picked : (places : List ℕ) (i : ℕ) (done values whole : List Value) → length places ≤ i
    → done ++ values_at (drop i places) values ≡ whole → done ≡ whole
all_picked places i done values whole past so_far =
    sym (append-nil done) ∙ sym (ap (λ ks. done ++ values_at ks values) (drop_all i places past)) ∙ so_far

-- what was read at a place of a list
pub taken : (items values : List Value) (k : ℕ) (read old : Value) → items ≡ values → k < length values
    → read ≡ get_or items k read → old ≡ read → get_or values k value.Null ≡ old
taken items values k read old same within is moved =
    get_or_default values k value.Null read within ∙ ap (λ xs. get_or xs k read) (sym same) ∙ sym is ∙ sym moved
