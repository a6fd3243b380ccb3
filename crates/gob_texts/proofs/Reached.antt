-- How far the done ranges reach.
use Rattle.std.proofs.Common.{◌≡◌, ℕ, ◌<◌, ◌≤◌, Bool, true, false, cond, ◌||◌, nat_lt, List, [], ◌∷◌, refl, sym, ap}
use Rattle.std.proofs.Common.{◌∙◌, arith}
use Rattle.std.specs.List.{list_any}
use Rattle.std.proofs.lemmas.Bool.{ltb-true, ltb-false, or_right, or_left}
use Rattle.gob_ledger.specs.Marks.{Span, Done, has, InOrder}
use Rattle.gob_ledger.proofs.Ranges.{inside, within, spans}
use Rattle.gob_texts.specs.Report.{reached_offset}
use Rattle.gob_texts.specs.Laws.{TellsWatermark}

abbrev in_any : ℕ → List Done → Bool
in_any at ds = list_any (λ d. has at d.span) ds

or_none : (a b : Bool) → a ≡ false → b ≡ false → (a || b) ≡ false
or_none true b e f = e
or_none false b e f = f

not_in : (at : ℕ) (s : Span) → (has at s ≡ true → ⊥) → has at s ≡ false
not_in at s clash = elim (has at s) as (λ v. has at s ≡ v → v ≡ false) [
  | true ↦ λ e. absurd (clash e)
  | false ↦ λ e. refl
] refl

-- every offset on the way is in a range
on_the_way : (ds : List Done) (from at : ℕ) → from ≤ at → at < reached_offset from ds → in_any at ds ≡ true
on_the_way [] from at low below = absurd (omega (arith, low, below))
on_the_way (d ∷ ds) from at low below = cases (has from d.span) refl below (λ start l b. on_the_way ds start at l b)
  where
    cases : (v : Bool) → has from d.span ≡ v → at < cond v (reached_offset d.span.hi ds) (reached_offset from ds)
        → ((start : ℕ) → start ≤ at → at < reached_offset start ds → in_any at ds ≡ true) → in_any at (d ∷ ds) ≡ true
    cases true is below later =
        elim (nat_lt at d.span.hi) as (λ v. nat_lt at d.span.hi ≡ v → in_any at (d ∷ ds) ≡ true) [
          | true ↦ λ e. or_left (has at d.span) (in_any at ds)
              (let w = within from d.span is in inside at d.span (omega (arith, w.0, low)) (ltb-true at d.span.hi e))
          | false ↦ λ e. or_right (has at d.span) (in_any at ds) (later d.span.hi (ltb-false at d.span.hi e) below)
        ] refl
    cases false is below later = or_right (has at d.span) (in_any at ds) (later from low below)

-- it never goes back
not_before : (ds : List Done) (from : ℕ) → from ≤ reached_offset from ds
not_before [] from = omega arith
not_before (d ∷ ds) from = cases (has from d.span) refl (not_before ds)
  where
    cases : (v : Bool) → has from d.span ≡ v → ((start : ℕ) → start ≤ reached_offset start ds)
        → from ≤ cond v (reached_offset d.span.hi ds) (reached_offset from ds)
    cases true is later = let w = within from d.span is in omega (arith, w.1, later d.span.hi)
    cases false is later = later from

-- ranges that all begin behind an offset leave it where it is
stays : (ds : List Done) (low from : ℕ) → InOrder low (spans ds) → from < low → reached_offset from ds ≡ from
stays [] low from order before = refl
stays (d ∷ ds) low from (a, b, c) before =
    ap (λ v. cond v (reached_offset d.span.hi ds) (reached_offset from ds))
    (not_in from d.span (λ e. let w = within from d.span e in omega (arith, w.0, a, before)))
    ∙ stays ds d.span.hi from c (omega (arith, a, b, before))

-- where it ends is in no range
ends_outside : (ds : List Done) (low from : ℕ) → InOrder low (spans ds) → in_any (reached_offset from ds) ds ≡ false
ends_outside [] low from order = refl
ends_outside (d ∷ ds) low from (a, b, c) = cases (has from d.span) refl (λ start. ends_outside ds d.span.hi start c)
  where
    cases : (v : Bool) → has from d.span ≡ v → ((start : ℕ) → in_any (reached_offset start ds) ds ≡ false)
        → in_any (cond v (reached_offset d.span.hi ds) (reached_offset from ds)) (d ∷ ds) ≡ false
    cases true is later =
        let w : ℕ = reached_offset d.span.hi ds in
        or_none (has w d.span) (in_any w ds) (not_in w d.span
        (λ e. let i = within w d.span e in omega (arith, i.1, not_before ds d.span.hi))) (later d.span.hi)
    cases false is later =
        let w : ℕ = reached_offset from ds in
        or_none (has w d.span) (in_any w ds) (not_in w d.span (λ e.
        let i = within w d.span e in
        elim (nat_lt from d.span.lo) as (λ v. nat_lt from d.span.lo ≡ v → ⊥) [
          | true ↦ λ f.
              let before : from < d.span.lo = ltb-true from d.span.lo f in
              let at : w ≡ from = stays ds d.span.hi from c (omega (arith, before, b)) in
              omega (arith, before, at, i.0)
          | false ↦ λ f.
              let yes : has from d.span ≡ true = inside from d.span (ltb-false from d.span.lo f)
              (omega (arith, not_before ds from, i.1)) in
              let both : true ≡ false = sym yes ∙ is in
              cc
        ] refl)) (later from)

pub watermark : TellsWatermark
watermark m tiled = record {
  below = λ at before. on_the_way m.finished 0 at (omega arith) before;
  here = ends_outside m.finished 0 0 tiled.finished;
}
