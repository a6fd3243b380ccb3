-- Done ranges that become one: where they stand, and what it leaves.
use Rattle.std.proofs.Common.{◌≡◌, ℕ, zero, suc, ◌+◌, ◌<◌, ◌≤◌, cond, nat_lt, List, [], ◌∷◌, ◌++◌, length, take, drop}
use Rattle.std.proofs.Common.{refl, sym, ap, subst, ◌∙◌, arith}
use Rattle.std.proofs.lemmas.List.{take-append-drop, length-take-le, drop-drop}
use Rattle.std.proofs.lemmas.Bool.{le-ltb}
use Rattle.std.proofs.lemmas.Bool.Decides.{nat_tests}
use Rattle.std.proofs.Math.Seq.{drop-append_seam}
use Rattle.gob_ledger.specs.Marks.{Marks, Span, Done, Tiled, InOrder, is_done}
use Rattle.gob_ledger.proofs.Ranges.{one_in, times, times-append, covered-is, spans, order_from}
use Rattle.gob_marks.specs.Joined.{FollowEachOther, Fill, Joins, FillsFront, first_pipeline}
use Rattle.gob_marks.specs.Places.{begun_by}
use Rattle.gob_marks.proofs.Places.{spans-append, spans-length, begun-behind}
use Rattle.gob_marks.proofs.Tiles.{done-at}
use Rattle.gob_marks.proofs.Walks.{follow_low, order_front, order_back}

order_mid : (from : ℕ) (xs : List Span) (s : Span) (ys : List Span) → InOrder from (xs ++ s ∷ ys) → from ≤ s.lo
order_mid from [] s ys (a, b, c) = a
order_mid from (x ∷ xs) s ys (a, b, c) = let later : x.hi ≤ s.lo = order_mid x.hi xs s ys c in
    omega (arith, later, a, b)

-- all ranges before a range have begun where it begins, and none behind it
begun-at : (from : ℕ) (xs : List Span) (s : Span) (ys : List Span) → InOrder from (xs ++ s ∷ ys)
    → begun_by s.lo (xs ++ s ∷ ys) ≡ suc (length xs)
begun-at from [] s ys (a, b, c) =
    ap (λ v. cond v zero (suc (begun_by s.lo ys))) (le-ltb s.lo s.lo (omega arith))
    ∙ ap suc (begun-behind s.lo s.hi ys b c)
begun-at from (x ∷ xs) s ys (a, b, c) =
    let later : x.hi ≤ s.lo = order_mid x.hi xs s ys c in
    ap (λ v. cond v zero (suc (begun_by s.lo (xs ++ s ∷ ys)))) (le-ltb s.lo x.lo (omega (arith, later, b)))
    ∙ ap suc (begun-at x.hi xs s ys c)

-- ---- where they stand

pub fill_place : (s : Span) (ds : List Done) (f : Fill s ds) → InOrder 0 (spans ds)
    → begun_by s.lo (spans ds) ≡ suc (length f.before)
fill_place s ds f order = place f.inside f.several f.fill f.parted
  where
    place : (inside : List Done) → 2 ≤ length inside → FollowEachOther f.pipeline s.lo s.hi inside
        → ds ≡ f.before ++ (inside ++ f.behind) → begun_by s.lo (spans ds) ≡ suc (length f.before)
    place [] several fill parted = absurd (omega (arith, several))
    place (d ∷ rest) several fill parted =
        let split : spans ds ≡ spans f.before ++ d.span ∷ spans (rest ++ f.behind) =
        ap spans parted ∙ spans-append f.before (d ∷ (rest ++ f.behind)) in
        let here = begun-at 0 (spans f.before) d.span (spans (rest ++ f.behind)) (subst (InOrder 0) split order) in
        ap (λ n. begun_by n (spans ds)) (sym fill.0) ∙ ap (begun_by d.span.lo) split ∙ here
        ∙ ap suc (spans-length f.before)

fill-pipeline : (p lo hi : ℕ) (inside behind : List Done) → 2 ≤ length inside → FollowEachOther p lo hi inside
    → p ≡ first_pipeline (inside ++ behind)
fill-pipeline p lo hi [] behind several fill = absurd (omega (arith, several))
fill-pipeline p lo hi (d ∷ ds) behind several fill = sym fill.1

-- where nothing has begun, nothing fills
pub fill-begun_none : (s : Span) (ds : List Done) → InOrder 0 (spans ds) → begun_by s.lo (spans ds) ≡ 0 → Fill s ds → ⊥
fill-begun_none s ds order none f = omega (arith, none, fill_place s ds f order)

-- nor where fewer than two do at the place that has begun last
pub fill-few : (s : Span) (ds : List Done) (first count : ℕ) → InOrder 0 (spans ds)
    → begun_by s.lo (spans ds) ≡ suc first → FillsFront s (drop first ds) count → count < 2 → Fill s ds → ⊥
fill-few s ds first count order begun front few f =
    let place : length f.before ≡ first = omega (arith, begun, fill_place s ds f order) in
    let parted : drop first ds ≡ f.inside ++ f.behind =
    ap (λ n. drop n ds) (sym place) ∙ ap (drop (length f.before)) f.parted
    ∙ drop-append_seam f.before (f.inside ++ f.behind) in
    let pipeline : f.pipeline ≡ first_pipeline (drop first ds) =
    fill-pipeline f.pipeline s.lo s.hi f.inside f.behind f.several f.fill ∙ ap first_pipeline (sym parted) in
    let same : count ≡ length f.inside =
    front.only f.inside f.behind parted (omega (arith, f.several))
    (subst (λ p. FollowEachOther p s.lo s.hi f.inside) pipeline f.fill) in
    omega (arith, same, f.several, few)

-- two or more at the front of what stands at a place fill
abbrev pub fill_from : (s : Span) (ds : List Done) (first count : ℕ) → FillsFront s (drop first ds) count → 2 ≤ count
    → Fill s ds
fill_from s ds first count front several = record {
  before = take first ds;
  inside = take count (drop first ds);
  behind = drop (first + count) ds;
  pipeline = first_pipeline (drop first ds);
  parted = sym (take-append-drop first ds)
      ∙ ap (λ es. take first ds ++ es)
      (sym (take-append-drop count (drop first ds))
      ∙ ap (λ es. take count (drop first ds) ++ es) (drop-drop count first ds));
  several = omega (arith, several, length-take-le count (drop first ds) front.within);
  fill = front.fill (omega (arith, several));
}

pub joins_from : (m : Marks) (s : Span) (first count : ℕ) → FillsFront s (drop first m.finished) count → 2 ≤ count
    → Joins s m (record m {
      finished =
          take first m.finished ++ record { span = s; pipeline = first_pipeline (drop first m.finished) } ∷ drop
          (first + count) m.finished;
    })
joins_from m s first count front several =
    record { parts = fill_from s m.finished first count front several; joined = refl }

-- ---- what it leaves

follow_order : (p lo hi : ℕ) (inside behind : List Done) → InOrder lo (spans (inside ++ behind))
    → FollowEachOther p lo hi inside → InOrder hi (spans behind)
follow_order p lo hi [] behind order e = subst (λ n. InOrder n (spans behind)) e order
follow_order p lo hi (d ∷ ds) behind (a, b, c) (e, f, g) = follow_order p d.span.hi hi ds behind c g

joined_order : (from p : ℕ) (s : Span) (before inside behind : List Done) → 2 ≤ length inside
    → FollowEachOther p s.lo s.hi inside → InOrder from (spans (before ++ (inside ++ behind)))
    → InOrder from (spans (before ++ record { span = s; pipeline = p } ∷ behind))
joined_order from p s [] [] behind several fill order = absurd (omega (arith, several))
joined_order from p s [] (d ∷ rest) behind several (e, f, g) (a, b, c) =
    let low : d.span.hi ≤ s.hi = follow_low p d.span.hi d.span.hi s.hi rest (order_front d.span.hi rest behind c) g in
    (omega (arith, a, e), omega (arith, e, b, low), follow_order p d.span.hi s.hi rest behind c g)
joined_order from p s (x ∷ xs) inside behind several fill (a, b, c) =
    (a, b, joined_order x.span.hi p s xs inside behind several fill c)

follow-times : (at p from lo hi : ℕ) (ds : List Done) → InOrder from (spans ds) → FollowEachOther p lo hi ds
    → times at (spans ds) ≡ one_in at (record { lo = lo; hi = hi })
follow-times at p from lo hi [] order e = grind (arith, nat_tests, e)
follow-times at p from lo hi (d ∷ ds) (a, b, c) (e, f, g) =
    let later : times at (spans ds) ≡ one_in at (record { lo = d.span.hi; hi = hi }) =
    follow-times at p d.span.hi d.span.hi hi ds c g in
    let low : d.span.hi ≤ hi = follow_low p d.span.hi d.span.hi hi ds c g in
    joins_in at d.span lo hi (times at (spans ds)) e b low later
  where
    joins_in : (at : ℕ) (s : Span) (lo hi t : ℕ) → s.lo ≡ lo → s.lo < s.hi → s.hi ≤ hi
        → t ≡ one_in at (record { lo = s.hi; hi = hi }) → one_in at s + t ≡ one_in at (record { lo = lo; hi = hi })
    joins_in at s lo hi t e b low is = grind (arith, nat_tests, e, b, low, is)

joined-times : (at from : ℕ) (s : Span) (ds : List Done) (f : Fill s ds) → InOrder from (spans ds)
    → times at (spans (f.before ++ record { span = s; pipeline = f.pipeline } ∷ f.behind)) ≡ times at (spans ds)
joined-times at from s ds f order =
    let back = order_back from f.before (f.inside ++ f.behind) (subst (λ es. InOrder from (spans es)) f.parted order) in
    let one : times at (spans f.inside) ≡ one_in at s =
    follow-times at f.pipeline back.0 s.lo s.hi f.inside (order_front back.0 f.inside f.behind back.1) f.fill in
    let new : times at (spans (f.before ++ record { span = s; pipeline = f.pipeline } ∷ f.behind)) ≡ times at
    (spans f.before) + (one_in at s + times at (spans f.behind)) =
    ap (times at) (spans-append f.before (record { span = s; pipeline = f.pipeline } ∷ f.behind))
    ∙ times-append at (spans f.before) (s ∷ spans f.behind) in
    let inner : times at (spans (f.inside ++ f.behind)) ≡ times at (spans f.inside) + times at (spans f.behind) =
    ap (times at) (spans-append f.inside f.behind) ∙ times-append at (spans f.inside) (spans f.behind) in
    let old : times at (spans ds) ≡ times at (spans f.before) + times at (spans (f.inside ++ f.behind)) =
    ap (λ es. times at (spans es)) f.parted ∙ ap (times at) (spans-append f.before (f.inside ++ f.behind))
    ∙ times-append at (spans f.before) (spans (f.inside ++ f.behind)) in
    omega (arith, new, one, inner, old)

pub joined_tiled : (s : Span) (m n : Marks) → Tiled m → Joins s m n → Tiled n
joined_tiled s m n tiled j = subst Tiled (sym j.joined) (record {
  finished = joined_order 0 j.parts.pipeline s j.parts.before j.parts.inside j.parts.behind j.parts.several
      j.parts.fill (subst (λ es. InOrder 0 (spans es)) j.parts.parted tiled.finished);
  owed = tiled.owed;
  once = λ at.
      let after : Marks = record m {
        finished =
            j.parts.before ++ record { span = s; pipeline = j.parts.pipeline } ∷ j.parts.behind;
      } in
      covered-is at after ∙ ap (λ k. k + times at m.owed) (joined-times at 0 s m.finished j.parts tiled.finished)
      ∙ sym (covered-is at m) ∙ tiled.once at;
})

-- what was done stays done, and no more is
pub joined-done : (s : Span) (m n : Marks) → Tiled m → Joins s m n → (at : ℕ) → is_done at n ≡ is_done at m
joined-done s m n tiled j at =
    ap (is_done at) j.joined
    ∙ done-at at (record m {
      finished =
          j.parts.before ++ record { span = s; pipeline = j.parts.pipeline } ∷ j.parts.behind;
    })
    ∙ ap (nat_lt 0) (joined-times at 0 s m.finished j.parts tiled.finished)
    ∙ sym (done-at at m)

-- ranges behind some are in order
pub order_drop : (n from : ℕ) (ds : List Done) → InOrder from (spans ds) → InOrder 0 (spans (drop n ds))
order_drop zero from ds order = order_from 0 from (spans ds) (omega arith) order
order_drop (suc n) from [] order = tt
order_drop (suc n) from (d ∷ ds) (a, b, c) = order_drop n d.span.hi ds c
