-- One reader after the other.
use Rattle.std.proofs.Common.{◌≡◌, ℕ, Bool, true, List, ◌++◌, refl, sym, ap, subst, ◌∙◌, Some, None}
use Rattle.std.proofs.Common.{IfSome, append_assoc}
use Rattle.std.specs.declared.option.Option.{Option}
use Rattle.std.specs.Option.{option_map}
use Rattle.std.proofs.lemmas.Option.{same_Some}
use Rattle.gob_text.specs.Words.{Takes, TakesText}
use Rattle.gob_state.specs.Reads.{ReadsSpelling}

-- a text of two parts: how its value comes of theirs
pub record Pairing {X Y Z : Type 0} (sx : X → List ℕ) (FX : X → Type 0) (GX : List ℕ → Type 0)
    (sy : X → Y → List ℕ) (FY : X → Y → Type 0) (sz : Z → List ℕ) (FZ : Z → Type 0) (G : List ℕ → Type 0) : Type 0 where
  pub to : X → Y → Z
  pub first : Z → X
  pub second : Z → Y
  pub whole : (z : Z) → to (first z) (second z) ≡ z
  pub spells : (x : X) (y : Y) → FX x → FY x y → sz (to x y) ≡ sx x ++ sy x y
  pub fits : (x : X) (y : Y) → FX x → FY x y → FZ (to x y)
  pub parts : (z : Z) → FZ z → FX (first z) × FY (first z) (second z)
  pub goes : (x : X) (y : Y) (after : List ℕ) → FX x → FY x y → G after → GX (sy x y ++ after)

pub no_more : {X : Type 0} (x : X) → None ≡ Some x → ⊥
no_more x e = cc

-- where the first part isn't there, neither is the whole
pub first_missing : {X Y Z : Type 0} {sx : X → List ℕ} {FX : X → Type 0} {GX : List ℕ → Type 0}
    {sy : X → Y → List ℕ} {FY : X → Y → Type 0} {sz : Z → List ℕ} {FZ : Z → Type 0} {G : List ℕ → Type 0}
    → Pairing sx FX GX sy FY sz FZ G → (old mid new : List ℕ) (o : Option X) (r : Option Z)
    → ReadsSpelling sx FX GX old mid o → o ≡ None → r ≡ None → ReadsSpelling sz FZ G old new r
first_missing {X} {Y} {Z} {sx} {FX} {GX} {sy} {FY} {sz} {FZ} {G} p old mid new o r a none gone =
    subst (ReadsSpelling sz FZ G old new) (sym gone) (record {
      spelled = tt;
      read = λ z after fz g e.
          let x = p.first z in
          let y = p.second z in
          let f = p.parts z fz in
          let same : old ≡ sx x ++ (sy x y ++ after) =
          e ∙ ap (λ w. sz w ++ after) (sym (p.whole z)) ∙ ap (λ t. t ++ after) (p.spells x y f.0 f.1)
          ∙ append_assoc (sx x) (sy x y) after in
          absurd (no_more x (sym none ∙ (a.read x (sy x y ++ after) f.0 (p.goes x y after f.0 f.1 g) same).0));
    })

-- where the first part is there, the second decides
pub then_second : {X Y Z : Type 0} {sx : X → List ℕ} {FX : X → Type 0} {GX : List ℕ → Type 0}
    {sy : X → Y → List ℕ} {FY : X → Y → Type 0} {sz : Z → List ℕ} {FZ : Z → Type 0} {G : List ℕ → Type 0}
    → (p : Pairing sx FX GX sy FY sz FZ G) → (old mid new : List ℕ) (x : X) (o : Option Y) (r : Option Z)
    → ReadsSpelling sx FX GX old mid (Some x) → ReadsSpelling (sy x) (FY x) G mid new o → r ≡ option_map (p.to x) o
    → ReadsSpelling sz FZ G old new r
then_second {X} {Y} {Z} {sx} {FX} {GX} {sy} {FY} {sz} {FZ} {G} p old mid new x o r a b is =
    subst (ReadsSpelling sz FZ G old new) (sym is) (cases o b)
  where
    found : (o : Option Y) → ReadsSpelling (sy x) (FY x) G mid new o → (z : Z) (after : List ℕ) → FZ z → G after
        → old ≡ sz z ++ after → (o ≡ Some (p.second z)) × (new ≡ after) × (x ≡ p.first z)
    found o b z after fz g e =
        let x' = p.first z in
        let y = p.second z in
        let f = p.parts z fz in
        let same : old ≡ sx x' ++ (sy x' y ++ after) =
        e ∙ ap (λ w. sz w ++ after) (sym (p.whole z)) ∙ ap (λ t. t ++ after) (p.spells x' y f.0 f.1)
        ∙ append_assoc (sx x') (sy x' y) after in
        let one = a.read x' (sy x' y ++ after) f.0 (p.goes x' y after f.0 f.1 g) same in
        let level : x ≡ x' = same_Some x x' one.0 in
        let two = (subst (λ w. ReadsSpelling (sy w) (FY w) G mid new o) level b).read y after f.1 g one.1 in
        (two.0, two.1, level)

    cases : (o : Option Y) → ReadsSpelling (sy x) (FY x) G mid new o → ReadsSpelling sz FZ G old new
        (option_map (p.to x) o)
    cases None b = record {
      spelled = tt;
      read = λ z after fz g e. absurd (no_more (p.second z) (found None b z after fz g e).0);
    }
    cases (Some y) b = record {
      spelled = (
        p.fits x y a.spelled.0 b.spelled.0,
        a.spelled.1 ∙ ap (λ t. sx x ++ t) b.spelled.1 ∙ sym (append_assoc (sx x) (sy x y) new)
            ∙ ap (λ t. t ++ new) (sym (p.spells x y a.spelled.0 b.spelled.0)),
      );
      read = λ z after fz g e.
          let r = found (Some y) b z after fz g e in
          let second : y ≡ p.second z = same_Some y (p.second z) r.0 in
          (ap Some ((λ i. p.to (r.2 i) (second i)) ∙ p.whole z), r.1);
    }

-- ---- fixed texts

-- a fixed text stands in front of it
pub behind_text : {X : Type 0} {s sz : X → List ℕ} {F : X → Type 0} {G : List ℕ → Type 0} (text old mid new : List ℕ)
    (b : Bool) (o : Option X) → ((x : X) → sz x ≡ text ++ s x) → TakesText text old mid b → b ≡ true
    → ReadsSpelling s F G mid new o → ReadsSpelling sz F G old new o
behind_text {X} {s} {sz} {F} {G} text old mid new b o spells t taken r = record {
  spelled = cases o r.spelled;
  read = λ x after f g e. r.read x after f g (t.read (s x ++ after) (split x after e)).1;
}
  where
    split : (x : X) (after : List ℕ) → old ≡ sz x ++ after → old ≡ text ++ (s x ++ after)
    split x after e = e ∙ ap (λ w. w ++ after) (spells x) ∙ append_assoc text (s x) after

    cases : (o : Option X) → IfSome o (λ x. F x × (mid ≡ s x ++ new)) → IfSome o (λ x. F x × (old ≡ sz x ++ new))
    cases None h = tt
    cases (Some x) h = (
      h.0,
      t.spelled taken ∙ ap (λ w. text ++ w) h.1 ∙ sym (append_assoc text (s x) new)
          ∙ ap (λ w. w ++ new) (sym (spells x)),
    )

pub from_takes : {X : Type 0} {s : X → List ℕ} {F : X → Type 0} {G : List ℕ → Type 0} (old new : List ℕ) (o : Option X)
    → Takes s F G old new o → ReadsSpelling s F G old new o
from_takes {X} {s} {F} {G} old new o t = record { spelled = cases o t.spelled; read = t.read }
  where
    cases : (o : Option X) → IfSome o (λ x. F x × G new × (old ≡ s x ++ new)) → IfSome o (λ x. F x × (old ≡ s x ++ new))
    cases None h = tt
    cases (Some x) h = (h.0, h.2)

-- what is read doesn't fit further
pub refused : {X : Type 0} {s : X → List ℕ} {F H : X → Type 0} {G : List ℕ → Type 0} (old mid new : List ℕ) (x : X)
    (o : Option X) → ReadsSpelling s F G old mid (Some x) → ((x : X) → H x → F x) → (H x → ⊥) → o ≡ None
    → ReadsSpelling s H G old new o
refused {X} {s} {F} {H} {G} old mid new x o r less never is = subst (ReadsSpelling s H G old new) (sym is) (record {
  spelled = tt;
  read = λ y after h g e.
      let same : x ≡ y = same_Some x y (r.read y after (less y h) g e).0 in
      absurd (never (subst H (sym same) h));
})

-- what is read fits further
pub passed : {X : Type 0} {s : X → List ℕ} {F H : X → Type 0} {G : List ℕ → Type 0} (old new : List ℕ) (x : X)
    → ReadsSpelling s F G old new (Some x) → ((x : X) → H x → F x) → H x → ReadsSpelling s H G old new (Some x)
passed old new x r less h = record {
  spelled = (h, r.spelled.1);
  read = λ y after k g e. r.read y after (less y k) g e;
}

-- nothing is read where less is asked for
pub not_even : {X : Type 0} {s : X → List ℕ} {F H : X → Type 0} {G : List ℕ → Type 0} (old mid new : List ℕ)
    (o r : Option X) → ReadsSpelling s F G old mid o → ((x : X) → H x → F x) → o ≡ None → r ≡ None
    → ReadsSpelling s H G old new r
not_even {X} {s} {F} {H} {G} old mid new o r a less none is = subst (ReadsSpelling s H G old new) (sym is) (record {
  spelled = tt;
  read = λ y after h g e. absurd (no_more y (sym none ∙ (a.read y after (less y h) g e).0));
})

-- ---- another form of the same

-- a value in another form, with the same text
pub record Renaming {X Z : Type 0} (sx : X → List ℕ) (FX : X → Type 0) (sz : Z → List ℕ)
    (FZ : Z → Type 0) : Type 0 where
  pub to : X → Z
  pub from : Z → X
  pub back : (z : Z) → FZ z → to (from z) ≡ z
  pub spells : (x : X) → sz (to x) ≡ sx x
  pub fits : (x : X) → FX x → FZ (to x)
  pub parts : (z : Z) → FZ z → FX (from z)

pub renamed : {X Z : Type 0} {sx : X → List ℕ} {FX : X → Type 0} {sz : Z → List ℕ} {FZ : Z → Type 0} {G : List ℕ
    → Type 0}
    (n : Renaming sx FX sz FZ) (old new : List ℕ) (o : Option X) (r : Option Z) → ReadsSpelling sx FX G old new o
    → r ≡ option_map n.to o → ReadsSpelling sz FZ G old new r
renamed {X} {Z} {sx} {FX} {sz} {FZ} {G} n old new o r a is = subst (ReadsSpelling sz FZ G old new) (sym is) (cases o a)
  where
    found : (o : Option X) → ReadsSpelling sx FX G old new o → (z : Z) (after : List ℕ) → FZ z → G after → old ≡ sz z
        ++ after
        → (o ≡ Some (n.from z)) × (new ≡ after)
    found o a z after f g e = a.read (n.from z) after (n.parts z f) g
        (e ∙ ap (λ w. sz w ++ after) (sym (n.back z f)) ∙ ap (λ t. t ++ after) (n.spells (n.from z)))

    cases : (o : Option X) → ReadsSpelling sx FX G old new o → ReadsSpelling sz FZ G old new (option_map n.to o)
    cases None a = record {
      spelled = tt;
      read = λ z after f g e. absurd (no_more (n.from z) (found None a z after f g e).0);
    }
    cases (Some x) a = record {
      spelled = (n.fits x a.spelled.0, a.spelled.1 ∙ ap (λ t. t ++ new) (sym (n.spells x)));
      read = λ z after f g e.
          let one = found (Some x) a z after f g e in
          (ap Some (ap n.to (same_Some x (n.from z) one.0) ∙ n.back z f), one.1);
    }

-- ---- results as the code has them

pub is_there : {X : Type 0} {s : X → List ℕ} {F : X → Type 0} {G : List ℕ → Type 0} (old new : List ℕ) (o : Option X)
    (x : X)
    → ReadsSpelling s F G old new o → o ≡ Some x → ReadsSpelling s F G old new (Some x)
is_there {X} {s} {F} {G} old new o x r is = subst (ReadsSpelling s F G old new) is r

pub second_missing : {X Y Z : Type 0} {sx : X → List ℕ} {FX : X → Type 0} {GX : List ℕ → Type 0}
    {sy : X → Y → List ℕ} {FY : X → Y → Type 0} {sz : Z → List ℕ} {FZ : Z → Type 0} {G : List ℕ → Type 0}
    → (p : Pairing sx FX GX sy FY sz FZ G) → (old mid new : List ℕ) (x : X) (o : Option Y) (r : Option Z)
    → ReadsSpelling sx FX GX old mid (Some x) → ReadsSpelling (sy x) (FY x) G mid new o → o ≡ None → r ≡ None
    → ReadsSpelling sz FZ G old new r
second_missing p old mid new x o r a b none is =
    then_second p old mid new x o r a b (is ∙ sym (ap (option_map (p.to x)) none))

pub both_read : {X Y Z : Type 0} {sx : X → List ℕ} {FX : X → Type 0} {GX : List ℕ → Type 0}
    {sy : X → Y → List ℕ} {FY : X → Y → Type 0} {sz : Z → List ℕ} {FZ : Z → Type 0} {G : List ℕ → Type 0}
    → (p : Pairing sx FX GX sy FY sz FZ G) → (old mid new : List ℕ) (x : X) (y : Y) (o : Option Y) (r : Option Z)
    → ReadsSpelling sx FX GX old mid (Some x) → ReadsSpelling (sy x) (FY x) G mid new o → o ≡ Some y → r ≡ Some
    (p.to x y)
    → ReadsSpelling sz FZ G old new r
both_read p old mid new x y o r a b there is =
    then_second p old mid new x o r a b (is ∙ sym (ap (option_map (p.to x)) there))

pub same_mapped : {X : Type 0} (o : Option X) → o ≡ option_map (λ x. x) o
same_mapped None = refl
same_mapped (Some x) = refl

pub is_missing : {X : Type 0} {s : X → List ℕ} {F : X → Type 0} {G : List ℕ → Type 0} (old new : List ℕ) (o : Option X)
    → ReadsSpelling s F G old new o → o ≡ None → ReadsSpelling s F G old new None
is_missing {X} {s} {F} {G} old new o r is = subst (ReadsSpelling s F G old new) is r
