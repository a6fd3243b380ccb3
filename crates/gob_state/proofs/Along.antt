-- Readers that go along a list.
use Rattle.std.proofs.Common.{◌≡◌, ℕ, List, [], ◌∷◌, ◌++◌, refl, sym, ap, subst, ◌∙◌, Some, None, append_assoc}
use Rattle.std.proofs.Common.{append-nil}
use Rattle.std.specs.declared.option.Option.{Option}
use Rattle.std.specs.List.{flat_map}
use Rattle.std.proofs.lemmas.List.Concat.{flat_map-append}
use Rattle.std.proofs.lemmas.Option.{same_Some}
use Rattle.gob_state.specs.Reads.{ReadsSpelling}
use Rattle.gob_state.proofs.Steps.{no_more}

-- These stood at the front, and each list that fits as a whole, where the text goes on as it may, begins with them.
pub record Along {X : Type 0} (s : X → List ℕ) (Good Whole : List X → Type 0) (G : List ℕ → Type 0) (old rest : List ℕ)
    (xs : List X) : Type 0 where
  pub good : Good xs
  pub spelled : old ≡ flat_map s xs ++ rest
  pub only : (ys : List X) (after : List ℕ) → Whole ys → G after → old ≡ flat_map s ys ++ after
      → (zs : List X) × (ys ≡ xs ++ zs) × (rest ≡ flat_map s zs ++ after)

-- what is to be known of one more
pub record OneMore {X : Type 0} (s : X → List ℕ) (F : X → Type 0) (H : List ℕ → Type 0) (Whole : List X → Type 0)
    (G : List ℕ → Type 0) (rest : List ℕ) (xs : List X) : Type 0 where
  pub more : (after : List ℕ) → Whole xs → G after → rest ≡ after → ⊥
  pub fits : (z : X) (zs : List X) → Whole (xs ++ z ∷ zs) → F z
  pub goes : (z : X) (zs : List X) (after : List ℕ) → Whole (xs ++ z ∷ zs) → G after → H (flat_map s zs ++ after)

pub at_start : {X : Type 0} {s : X → List ℕ} {Good Whole : List X → Type 0} {G : List ℕ → Type 0} (old : List ℕ)
    → Good [] → Along s Good Whole G old old []
at_start old good = record { good = good; spelled = refl; only = λ ys after w g e. (ys, refl, e) }

-- one that is there
first_read : {X : Type 0} {s : X → List ℕ} {F : X → Type 0} {H : List ℕ → Type 0} {Whole : List X → Type 0}
    {G : List ℕ → Type 0} (rest new : List ℕ) (xs : List X) (o : Option X)
    → OneMore s F H Whole G rest xs → ReadsSpelling s F H rest new o → (zs : List X) (after : List ℕ) → Whole (xs ++ zs)
    → G after → rest ≡ flat_map s zs ++ after
    → (z : X) × (later : List X) × (zs ≡ z ∷ later) × (o ≡ Some z) × (new ≡ flat_map s later ++ after)
first_read {X} {s} {F} {H} {Whole} {G} rest new xs o m r [] after w g e =
    absurd (m.more after (subst Whole (append-nil xs) w) g e)
first_read {X} {s} {F} {H} {Whole} {G} rest new xs o m r (z ∷ zs) after w g e =
    let one = r.read z (flat_map s zs ++ after) (m.fits z zs w) (m.goes z zs after w g)
    (e ∙ append_assoc (s z) (flat_map s zs) after) in
    (z, zs, refl, one.0, one.1)

pub one_more : {X : Type 0} {s : X → List ℕ} {F : X → Type 0} {H : List ℕ → Type 0} {Good Whole : List X → Type 0}
    {G : List ℕ → Type 0} (old rest new : List ℕ) (xs : List X) (x : X)
    → Along s Good Whole G old rest xs → OneMore s F H Whole G rest xs → ReadsSpelling s F H rest new (Some x)
    → Good (xs ++ x ∷ []) → Along s Good Whole G old new (xs ++ x ∷ [])
one_more {X} {s} {F} {H} {Good} {Whole} {G} old rest new xs x a m r good = record {
  good = good;
  spelled = a.spelled ∙ ap (λ t. flat_map s xs ++ t) r.spelled.1 ∙ sym (append_assoc (flat_map s xs) (s x) new)
      ∙ ap (λ t. t ++ new)
      (sym (flat_map-append s xs (x ∷ []) ∙ ap (λ t. flat_map s xs ++ t) (append-nil (s x))));
  only = λ ys after w g e.
      let p = a.only ys after w g e in
      let q = first_read rest new xs (Some x) m r p.0 after (subst Whole p.1 w) g p.2 in
      let same : x ≡ q.0 = same_Some x q.0 q.3 in (
        q.1,
        p.1 ∙ ap (λ zs. xs ++ zs) (q.2 ∙ ap (λ z. z ∷ q.1) (sym same)) ∙ sym (append_assoc xs (x ∷ []) q.1),
        q.4,
      );
}

-- where one more isn't there, no list is
pub one_missing : {X : Type 0} {s : X → List ℕ} {F : X → Type 0} {H : List ℕ → Type 0} {Good Whole : List X → Type 0}
    {G : List ℕ → Type 0} (old rest mid new : List ℕ) (xs : List X) (o : Option X) (r : Option (List X))
    → Along s Good Whole G old rest xs → OneMore s F H Whole G rest xs → ReadsSpelling s F H rest mid o → o ≡ None → r
    ≡ None
    → ReadsSpelling (λ ys. flat_map s ys) Whole G old new r
one_missing {X} {s} {F} {H} {Good} {Whole} {G} old rest mid new xs o r a m b none is =
    subst (ReadsSpelling (λ ys. flat_map s ys) Whole G old new) (sym is) (record {
      spelled = tt;
      read = λ ys after w g e.
          let p = a.only ys after w g e in
          let q = first_read rest mid xs o m b p.0 after (subst Whole p.1 w) g p.2 in
          absurd (no_more q.0 (sym none ∙ q.3));
    })

-- the whole list is there
pub all_read : {X : Type 0} {s : X → List ℕ} {Good Whole : List X → Type 0} {G : List ℕ → Type 0} (old rest : List ℕ)
    (xs : List X) → Along s Good Whole G old rest xs → Whole xs
    → ((z : X) (zs : List X) (after : List ℕ) → Whole (xs ++ z ∷ zs) → G after
    → rest ≡ s z ++ (flat_map s zs ++ after) → ⊥)
    → ReadsSpelling (λ ys. flat_map s ys) Whole G old rest (Some xs)
all_read {X} {s} {Good} {Whole} {G} old rest xs a whole stop = record {
  spelled = (whole, a.spelled);
  read = λ ys after w g e. ended ys after w g (a.only ys after w g e);
}
  where
    ended : (ys : List X) (after : List ℕ) → Whole ys → G after
        → (zs : List X) × (ys ≡ xs ++ zs) × (rest ≡ flat_map s zs ++ after) → (Some xs ≡ Some ys) × (rest ≡ after)
    ended ys after w g ([], is, e) = (ap Some (sym (is ∙ append-nil xs)), e)
    ended ys after w g (z ∷ zs, is, e) =
        absurd (stop z zs after (subst Whole is w) g (e ∙ append_assoc (s z) (flat_map s zs) after))
