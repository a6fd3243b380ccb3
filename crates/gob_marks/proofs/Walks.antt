-- Done ranges that follow each other: how far a walk over them comes.
use Rattle.std.proofs.Common.{◌≡◌, ◌⊎◌, inl, inr, ⊎_elim, ℕ, suc, ◌+◌, ◌<◌, ◌≤◌, List, [], ◌∷◌, ◌++◌, length, get_or}
use Rattle.std.proofs.Common.{take, drop, refl, sym, ap, subst, ◌∙◌, arith, add-one, append-nil, length-append}
use Rattle.std.proofs.lemmas.List.{take-append-drop, length-take-le}
use Rattle.std.proofs.Math.Seq.{take-suc, drop-cons, drop-length}
use Rattle.gob_ledger.specs.Marks.{Span, Done, InOrder}
use Rattle.gob_ledger.proofs.Ranges.{spans}
use Rattle.gob_marks.specs.Joined.{FollowEachOther, FillsFront, first_pipeline}

-- where two splits of a list meet
pub split_cases : {X : Type 0} (xs ys vs ws : List X) → xs ++ ys ≡ vs ++ ws
    → ((c : List X) × (vs ≡ xs ++ c) × (ys ≡ c ++ ws)) ⊎ ((c : List X) × (xs ≡ vs ++ c) × (ws ≡ c ++ ys))
split_cases [] ys vs ws e = inl (vs, refl, e)
split_cases (x ∷ xs) ys [] ws e = inr (x ∷ xs, refl, sym e)
split_cases {X} (x ∷ xs) ys (v ∷ vs) ws e =
    let head : x ≡ v = cc in
    let tail : xs ++ ys ≡ vs ++ ws = cc in
    ⊎_elim
    (λ p. inl (p.0, (λ i. sym head i ∷ p.1 i), p.2))
    (λ p. inr (p.0, (λ i. head i ∷ p.1 i), p.2))
    (split_cases xs ys vs ws tail)

one_end : (p q lo h k : ℕ) (ds : List Done) → FollowEachOther p lo h ds → FollowEachOther q lo k ds → h ≡ k
one_end p q lo h k [] e f = sym e ∙ f
one_end p q lo h k (d ∷ ds) e f = one_end p q d.span.hi h k ds e.2 f.2

pub follow_parts : (p lo hi : ℕ) (xs ys : List Done) → FollowEachOther p lo hi (xs ++ ys)
    → (mid : ℕ) × FollowEachOther p lo mid xs × FollowEachOther p mid hi ys
follow_parts p lo hi [] ys e = (lo, refl, e)
follow_parts p lo hi (x ∷ xs) ys (a, b, c) =
    let r = follow_parts p x.span.hi hi xs ys c in (r.0, (a, b, r.1), r.2)

pub follow_more : (p lo mid hi : ℕ) (xs ys : List Done) → FollowEachOther p lo mid xs → FollowEachOther p mid hi ys
    → FollowEachOther p lo hi (xs ++ ys)
follow_more p lo mid hi [] ys e f = subst (λ n. FollowEachOther p n hi ys) (sym e) f
follow_more p lo mid hi (x ∷ xs) ys (a, b, c) f = (a, b, follow_more p x.span.hi mid hi xs ys c f)

-- they don't end below their beginning, and none is empty
pub follow_low : (p from lo hi : ℕ) (ds : List Done) → InOrder from (spans ds) → FollowEachOther p lo hi ds → lo ≤ hi
follow_low p from lo hi [] order e = omega (arith, e)
follow_low p from lo hi (d ∷ ds) (a, b, c) (e, f, g) =
    let later : d.span.hi ≤ hi = follow_low p d.span.hi d.span.hi hi ds c g in omega (arith, later, b, e)

follow_some : (p from lo hi : ℕ) (d : Done) (ds : List Done) → InOrder from (spans (d ∷ ds))
    → FollowEachOther p lo hi (d ∷ ds) → lo < hi
follow_some p from lo hi d ds (a, b, c) (e, f, g) =
    let later : d.span.hi ≤ hi = follow_low p d.span.hi d.span.hi hi ds c g in omega (arith, later, b, e)

pub order_front : (from : ℕ) (xs ys : List Done) → InOrder from (spans (xs ++ ys)) → InOrder from (spans xs)
order_front from [] ys order = tt
order_front from (x ∷ xs) ys (a, b, c) = (a, b, order_front x.span.hi xs ys c)

pub order_back : (from : ℕ) (xs ys : List Done) → InOrder from (spans (xs ++ ys)) → (low : ℕ) × InOrder low (spans ys)
order_back from [] ys order = (from, order)
order_back from (x ∷ xs) ys (a, b, c) = order_back x.span.hi xs ys c

-- what fills a range isn't a front of what stays short of its end
never_short : (p q lo h end from : ℕ) (walked inside c : List Done) → InOrder from (spans walked)
    → FollowEachOther p lo h walked → FollowEachOther q lo end inside → walked ≡ inside ++ c → end ≤ h
never_short p q lo h end from walked inside c order follow fill is =
    let parts = follow_parts p lo h inside c (subst (FollowEachOther p lo h) is follow) in
    let same : parts.0 ≡ end = one_end p q lo parts.0 end inside parts.1 fill in
    let back = order_back from inside c (subst (λ ds. InOrder from (spans ds)) is order) in
    let low : parts.0 ≤ h = follow_low p back.0 parts.0 h c back.1 parts.2 in
    omega (arith, same, low)

-- a walk over the ranges at the front that has come to a place, and to an offset there, short of the range's end
pub record Walked (s : Span) (ds : List Done) (at hi : ℕ) : Type 0 where
  pub within : at ≤ length ds
  pub follow : FollowEachOther (first_pipeline ds) s.lo hi (take at ds)
  pub short : 0 < at → hi < s.hi

pub walk_begins : (s : Span) (ds : List Done) → Walked s ds 0 s.lo
walk_begins s ds = record { within = omega arith; follow = refl; short = λ some. absurd (omega (arith, some)) }

-- what fills the range goes on behind the walk
record GoesOn (s : Span) (ds : List Done) (at hi : ℕ) (inside behind : List Done) : Type 0 where
  pub first : Done
  pub rest : List Done
  pub is : inside ≡ take at ds ++ first ∷ rest
  pub here : drop at ds ≡ first ∷ (rest ++ behind)
  pub lo : first.span.lo ≡ hi
  pub pipeline : first.pipeline ≡ first_pipeline ds
  pub fill : FollowEachOther (first_pipeline ds) first.span.hi s.hi rest
  pub order : InOrder first.span.hi (spans rest)

goes_on : (s : Span) (ds : List Done) (at hi : ℕ) (inside behind : List Done) → InOrder 0 (spans ds)
    → Walked s ds at hi → ds ≡ inside ++ behind → 0 < length inside
    → FollowEachOther (first_pipeline ds) s.lo s.hi inside → GoesOn s ds at hi inside behind
goes_on s ds at hi inside behind order walked parted some fill =
    ⊎_elim
    (λ p. absurd (front p.0 p.1))
    (λ p. more p.0 p.1 p.2)
    (split_cases inside behind (take at ds) (drop at ds) (sym parted ∙ sym (take-append-drop at ds)))
  where
    p : ℕ
    p = first_pipeline ds

    whole : take at ds ++ drop at ds ≡ ds
    whole = take-append-drop at ds

    fronts : InOrder 0 (spans (take at ds))
    fronts = order_front 0 (take at ds) (drop at ds) (subst (λ es. InOrder 0 (spans es)) (sym whole) order)

    long : length (take at ds) ≡ at
    long = length-take-le at ds walked.within

    front : (c : List Done) → take at ds ≡ inside ++ c → ⊥
    front c is =
        let over : s.hi ≤ hi = never_short p p s.lo hi s.hi 0 (take at ds) inside c fronts walked.follow fill is in
        let count : length (take at ds) ≡ length inside + length c = ap length is ∙ length-append inside c in
        let below : hi < s.hi = walked.short (omega (arith, long, count, some)) in
        omega (arith, over, below)

    more : (c : List Done) → inside ≡ take at ds ++ c → drop at ds ≡ c ++ behind → GoesOn s ds at hi inside behind
    more [] is rest =
        absurd (front [] (sym (is ∙ append-nil (take at ds)) ∙ sym (append-nil inside)))
    more (e ∷ es) is rest =
        let parts = follow_parts p s.lo s.hi (take at ds) (e ∷ es) (subst (FollowEachOther p s.lo s.hi) is fill) in
        let same : parts.0 ≡ hi = one_end p p s.lo parts.0 hi (take at ds) parts.1 walked.follow in
        let on : FollowEachOther p hi s.hi (e ∷ es) = subst (λ n. FollowEachOther p n s.hi (e ∷ es)) same parts.2 in
        let back = order_back 0 (take at ds) (drop at ds) (subst (λ xs. InOrder 0 (spans xs)) (sym whole) order) in
        let ordered : InOrder back.0 (spans (e ∷ (es ++ behind))) =
        subst (λ xs. InOrder back.0 (spans xs)) rest back.1 in
        record {
          first = e;
          rest = es;
          is = is;
          here = rest;
          lo = on.0;
          pipeline = on.1;
          fill = on.2;
          order = order_front e.span.hi es behind ordered.2;
        }

-- the range at the walk's place
here_is : (s : Span) (ds : List Done) (at hi : ℕ) (inside behind : List Done) (d : Done) → at < length ds
    → d ≡ get_or ds at d → (g : GoesOn s ds at hi inside behind) → g.first ≡ d
here_is s ds at hi inside behind d below is g =
    let both : g.first ∷ (g.rest ++ behind) ≡ get_or ds at d ∷ drop (suc at) ds =
    sym g.here ∙ drop-cons ds at d below in
    let first : g.first ≡ get_or ds at d = cc in
    first ∙ sym is

no_front : (s : Span) (ds : List Done)
    → ((inside behind : List Done) → ds ≡ inside ++ behind → 0 < length inside
    → FollowEachOther (first_pipeline ds) s.lo s.hi inside → ⊥) → FillsFront s ds 0
no_front s ds none = record {
  within = omega arith;
  fill = λ some. absurd (omega (arith, some));
  only = λ inside behind parted some fill. absurd (none inside behind parted some fill);
}

-- the walk stops at a range that begins elsewhere or is of another pipeline
pub stops_apart : (s : Span) (ds : List Done) (at hi : ℕ) (d : Done) → InOrder 0 (spans ds) → Walked s ds at hi
    → at < length ds → d ≡ get_or ds at d → (d.span.lo ≡ hi → d.pipeline ≡ first_pipeline ds → ⊥) → FillsFront s ds 0
stops_apart s ds at hi d order walked below is differs = no_front s ds (λ inside behind parted some fill.
    let g = goes_on s ds at hi inside behind order walked parted some fill in
    let same = here_is s ds at hi inside behind d below is g in
    differs (sym (ap (λ (e : Done). e.span.lo) same) ∙ g.lo) (sym (ap (λ (e : Done). e.pipeline) same) ∙ g.pipeline))

-- or that ends past the end
pub stops_past : (s : Span) (ds : List Done) (at hi : ℕ) (d : Done) → InOrder 0 (spans ds) → Walked s ds at hi
    → at < length ds → d ≡ get_or ds at d → s.hi < d.span.hi → FillsFront s ds 0
stops_past s ds at hi d order walked below is past = no_front s ds (λ inside behind parted some fill.
    let g = goes_on s ds at hi inside behind order walked parted some fill in
    let same = here_is s ds at hi inside behind d below is g in
    let end : g.first.span.hi ≡ d.span.hi = ap (λ (e : Done). e.span.hi) same in
    let low : g.first.span.hi ≤ s.hi =
    follow_low (first_pipeline ds) g.first.span.hi g.first.span.hi s.hi g.rest g.order g.fill in
    omega (arith, end, low, past))

-- or where no range is left
pub stops_none : (s : Span) (ds : List Done) (at hi : ℕ) → InOrder 0 (spans ds) → Walked s ds at hi → at ≡ length ds
    → FillsFront s ds 0
stops_none s ds at hi order walked end = no_front s ds (λ inside behind parted some fill.
    let g = goes_on s ds at hi inside behind order walked parted some fill in
    let none : drop at ds ≡ [] = ap (λ n. drop n ds) end ∙ drop-length ds in
    let both : g.first ∷ (g.rest ++ behind) ≡ [] = sym g.here ∙ none in
    cc)

-- or at the end
pub stops_there : (s : Span) (ds : List Done) (at hi : ℕ) (d : Done) → InOrder 0 (spans ds) → Walked s ds at hi
    → at < length ds → d ≡ get_or ds at d → d.span.lo ≡ hi → d.pipeline ≡ first_pipeline ds → d.span.hi ≡ s.hi
    → FillsFront s ds (at + 1)
stops_there s ds at hi d order walked below is lo pipeline end = record {
  within = omega (arith, below);
  fill = λ some. subst (FollowEachOther (first_pipeline ds) s.lo s.hi) (sym taken)
      (follow_more (first_pipeline ds) s.lo hi s.hi (take at ds) (d ∷ []) walked.follow (lo, pipeline, end));
  only = λ inside behind parted some fill.
      let g = goes_on s ds at hi inside behind order walked parted some fill in
      let same = here_is s ds at hi inside behind d below is g in
      let ends : g.first.span.hi ≡ s.hi = ap (λ (e : Done). e.span.hi) same ∙ end in
      let last : length g.rest ≡ 0 = nothing_more g.rest g.first.span.hi ends g.order g.fill in
      let count : length inside ≡ length (take at ds) + suc (length g.rest) =
      ap length g.is ∙ length-append (take at ds) (g.first ∷ g.rest) in
      omega (arith, count, last, length-take-le at ds walked.within);
}
  where
    taken : take (at + 1) ds ≡ take at ds ++ d ∷ []
    taken = ap (λ n. take n ds) (add-one at) ∙ take-suc ds at d below ∙ ap (λ e. take at ds ++ e ∷ []) (sym is)

    nothing_more : (rest : List Done) (from : ℕ) → from ≡ s.hi → InOrder from (spans rest)
        → FollowEachOther (first_pipeline ds) from s.hi rest → length rest ≡ 0
    nothing_more [] from e ordered fill = refl
    nothing_more (r ∷ rs) from e ordered fill =
        absurd (omega (arith, e, follow_some (first_pipeline ds) from from s.hi r rs ordered fill))

-- or goes on
pub walks_on : (s : Span) (ds : List Done) (at hi : ℕ) (d : Done) → Walked s ds at hi → at < length ds
    → d ≡ get_or ds at d → d.span.lo ≡ hi → d.pipeline ≡ first_pipeline ds → d.span.hi < s.hi
    → Walked s ds (at + 1) d.span.hi
walks_on s ds at hi d walked below is lo pipeline before = record {
  within = omega (arith, below);
  follow = subst (FollowEachOther (first_pipeline ds) s.lo d.span.hi) (sym taken)
      (follow_more (first_pipeline ds) s.lo hi d.span.hi (take at ds) (d ∷ []) walked.follow (lo, pipeline, refl));
  short = λ some. before;
}
  where
    taken : take (at + 1) ds ≡ take at ds ++ d ∷ []
    taken = ap (λ n. take n ds) (add-one at) ∙ take-suc ds at d below ∙ ap (λ e. take at ds ++ e ∷ []) (sym is)

pub first-pipeline : (ds : List Done) (d : Done) → 0 < length ds → d ≡ get_or ds 0 d → first_pipeline ds ≡ d.pipeline
first-pipeline [] d some is = absurd (omega (arith, some))
first-pipeline (e ∷ es) d some is = sym (ap (λ (x : Done). x.pipeline) is)
