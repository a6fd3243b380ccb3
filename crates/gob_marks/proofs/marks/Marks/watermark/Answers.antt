use Rattle.std.proofs.Common.{◌≡◌, List, [], ◌∷◌, Some, None, slice_get, ap, sym, subst, ◌∙◌, refl}
use Rattle.gob_ledger.specs.Marks.{Span, Marks, IsWatermark, Tiled}
use Rattle.gob_marks.proofs.Tiles.{watermark-open, watermark-none}
use Rattle.gob_marks.proofs.marks.Marks.watermark.Goals as goal

-- the first open range of these marks, where there is one
watermark-first : (m : Marks) (s : Span) → Tiled m → slice_get m.owed 0 ≡ Some s → IsWatermark s.lo m
watermark-first m s tiled is = cases m.owed refl is
  where
    cases : (ss : List Span) → m.owed ≡ ss → slice_get ss 0 ≡ Some s → IsWatermark s.lo m
    cases [] owed none = cc
    cases (t ∷ ts) owed first = let same : t ≡ s = cc in
        subst (λ (x : Span). IsWatermark x.lo m) same (watermark-open m t ts tiled owed)

no_first : (m : Marks) → Tiled m → slice_get m.owed 0 ≡ None → IsWatermark m.next m
no_first m tiled is = cases m.owed refl is
  where
    cases : (ss : List Span) → m.owed ≡ ss → slice_get ss 0 ≡ None → IsWatermark m.next m
    cases [] owed none = watermark-none m tiled owed
    cases (t ∷ ts) owed first = cc

pub returns-in-Some : goal.returns-in-Some
returns-in-Some c =
    let inside : Marks = record {
      next = c.self.inside.next;
      finished = c.self.inside.done.items;
      owed = c.self.inside.owed;
    } in
    let first : slice_get c.self.inside.owed 0 ≡ Some c.in-Some.first.now =
    ap (λ (ss : List Span). slice_get ss 0) (sym c.as_slice.ensures.value) ∙ sym c.in-Some.ensures.value in
    let lo = ap (λ (s : Span). s.lo) c.first-in-Some.view_is in
    subst (λ n. IsWatermark n c.args.self.now) (sym lo)
    (subst (IsWatermark c.in-Some.first.now.lo) c.self.view_is
    (watermark-first inside c.in-Some.first.now c.self.invariant first))

pub returns-in-None : goal.returns-in-None
returns-in-None c =
    let inside : Marks = record {
      next = c.self.inside.next;
      finished = c.self.inside.done.items;
      owed = c.self.inside.owed;
    } in
    let none : slice_get c.self.inside.owed 0 ≡ None =
    ap (λ (ss : List Span). slice_get ss 0) (sym c.as_slice.ensures.value) ∙ sym c.in-None.ensures.value in
    subst (IsWatermark c.self.inside.next) c.self.view_is (no_first inside c.self.invariant none)
