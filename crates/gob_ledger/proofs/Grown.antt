-- Partitions that grow change nothing of what a state means.
use Rattle.std.proofs.Common.{◌≡◌, ◌↔◌, inl, inr, ℕ, ◌+◌, ◌-◌, ◌<◌, ◌≤◌, List, [], ◌∷◌, ◌++◌, map, length, take, drop}
use Rattle.std.proofs.Common.{refl, sym, ap, subst, ◌∙◌, Some, None, unwrap_or, arith, length-append}
use Rattle.std.specs.List.{Contains, flat_map}
use Rattle.std.proofs.lemmas.List.{take-append-le, drop-append-le, map-append, length-drop}
use Rattle.std.proofs.lemmas.List.Elements.{Contains-append_left, All-weaker}
use Rattle.gob_bytes.specs.Lines.{line_ends, lines, end_of}
use Rattle.gob_bytes.specs.Tables.{at_name, names_of, IsInByteOrder}
use Rattle.gob_bytes.proofs.Cuts.{lines_join}
use Rattle.gob_bytes.proofs.Tables.{at_from_member}
use Rattle.std.specs.declared.option.Option.{Option}
use Rattle.gob_plan.specs.declared.plan.Plan.{Plan}
use Rattle.gob_meaning.specs.Fold.{unit_fold, counts_of}
use Rattle.gob_device.specs.Supply.{Held, bytes_from, bytes_at}
use Rattle.gob_ledger.specs.Marks.{Marks, Span, Done}
use Rattle.gob_ledger.specs.State.{State, marks_at, TiledState}
use Rattle.gob_ledger.specs.Archive.{Grows, IsLineStart, LiesOnLines, LiesIn, IsWithin}
use Rattle.gob_ledger.specs.Expected.{IsMade, IsExpected, bytes_of_range}
use Rattle.gob_ledger.specs.Totals.{counts_where, plan_at, done_counts, part_counts, sum_counts, counted_in}
use Rattle.gob_ledger.specs.Laws.{GrownArchive}
use Rattle.gob_ledger.proofs.Members.{first_in, later_in, map_in}
use Rattle.gob_ledger.proofs.Ranges.{done_below}

-- the line ends of a front are line ends of the whole
pub ends_stay : (x y : List ℕ) (e : ℕ) → Contains (line_ends x) e → Contains (line_ends (x ++ y)) e
ends_stay x y e h = subst (λ ls. Contains (map end_of ls) e) (sym (lines_join x y).lines)
    (subst (λ es. Contains es e) (sym (map-append end_of (lines x) _)) (Contains-append_left (line_ends x) _ e h))

starts_stay : (x y : List ℕ) (at : ℕ) → IsLineStart x at → IsLineStart (x ++ y) at
starts_stay x y at (inl e) = inl e
starts_stay x y at (inr h) = inr (ends_stay x y at h)

lies_still : (x y : List ℕ) (m : Marks) → LiesIn x m → LiesIn (x ++ y) m
lies_still x y m lies = record {
  reached = let e : length (x ++ y) ≡ length x + length y = length-append x y in let r = lies.reached in
      omega (arith, r);
  lines = All-weaker (LiesOnLines x) (LiesOnLines (x ++ y)) (λ s l.
      record { lo = starts_stay x y s.lo l.lo; hi = ends_stay x y s.hi l.hi }) _ lies.lines;
}

-- what lies in a front reads the same in the whole
pub front_reads_same : (x y : List ℕ) (lo len : ℕ) → lo + len ≤ length x
    → take len (drop lo (x ++ y)) ≡ take len (drop lo x)
front_reads_same x y lo len fits =
    ap (take len) (drop-append-le lo x y (omega (arith, fits)))
    ∙ take-append-le len (drop lo x) y (let e : length (drop lo x) ≡ length x - lo = length-drop lo x in
    omega (arith, fits))

-- a range that lies in the archive has the same bytes in the later one
pub bytes_stay : (archive later : Held) (part bytes : List ℕ) (s : Span) → Grows archive later
    → at_name archive part ≡ Some bytes → s.lo < s.hi → s.hi ≤ length bytes
    → bytes_of_range later part s ≡ bytes_of_range archive part s
unfolding bytes_from
bytes_stay archive later part bytes s grows at some fits =
    let g = grows part bytes at in
    let new : bytes_at later part ≡ bytes ++ g.0 = ap (λ o. unwrap_or o []) g.1 in
    let old : bytes_at archive part ≡ bytes = ap (λ o. unwrap_or o []) at in
    ap (λ b. take (s.hi - s.lo) (drop s.lo b)) new ∙ (front_reads_same bytes g.0 s.lo (s.hi - s.lo)
    (omega (arith, some, fits)) ∙ sym (ap (λ b. take (s.hi - s.lo) (drop s.lo b)) old))

done_bytes_stay : (archive later : Held) (s : State) (part : List ℕ) (m : Marks) (d : Done) → Grows archive later
    → IsWithin archive s → TiledState s → marks_at s part ≡ Some m → Contains m.finished d
    → bytes_of_range later part d.span ≡ bytes_of_range archive part d.span
done_bytes_stay archive later s part m d grows within tiled at h =
    let w = within part m at in
    let b = done_below m (tiled.tiled part m at) d.span (map_in (λ (x : Done). x.span) m.finished d h) in
    let fits : d.span.hi ≤ length w.0 = let r = w.2.reached in omega (arith, r, b.1) in
    bytes_stay archive later part w.0 d.span grows w.1 b.0 fits

pub map_alike : {X Y : Type 0} (f g : X → Y) (xs : List X) → ((x : X) → Contains xs x → f x ≡ g x) → map f xs ≡ map g xs
map_alike f g [] same = refl
map_alike f g (x ∷ xs) same = λ i. same x (first_in x xs x refl) i ∷ map_alike f g xs
    (λ y h. same y (later_in x xs y h)) i

pub flat_map_alike : {X Y : Type 0} (f g : X → List Y) (xs : List X) → ((x : X) → Contains xs x → f x ≡ g x)
    → flat_map f xs ≡ flat_map g xs
flat_map_alike f g [] same = refl
flat_map_alike f g (x ∷ xs) same = λ i. same x (first_in x xs x refl) i
    ++ flat_map_alike f g xs (λ y h. same y (later_in x xs y h)) i

where_alike : (o : Option Plan) (archive later : Held) (part : List ℕ) (s : Span)
    → bytes_of_range later part s ≡ bytes_of_range archive part s → counts_where o later part s
    ≡ counts_where o archive part s
where_alike None archive later part s same = refl
where_alike (Some plan) archive later part s same = ap (λ b. counts_of plan (unit_fold plan s.lo b)) same

counted_stays : (archive later : Held) (s : State) → Grows archive later → IsWithin archive s → TiledState s
    → IsInByteOrder (names_of s.parts) → counted_in s later ≡ counted_in s archive
unfolding counted_in
counted_stays archive later s grows within tiled rising =
    ap sum_counts (flat_map_alike (part_counts s.pipelines later) (part_counts s.pipelines archive) s.parts
    (λ e h. map_alike (done_counts s.pipelines later e.0) (done_counts s.pipelines archive e.0) e.1.finished
    (λ d k. where_alike (plan_at s.pipelines d.pipeline) archive later e.0 d.span
    (done_bytes_stay archive later s e.0 e.1 d grows within tiled (at_from_member s.parts e.0 e.1 rising h) k))))

read_alike : (job : List ℕ) (s : State) (one other : Held) (name content : List ℕ)
    (e : IsExpected job s one name content) → bytes_of_range one e.part e.done.span
    ≡ bytes_of_range other e.part e.done.span
    → IsExpected job s other name content
read_alike job s one other name content e same = record {
  part = e.part;
  marks = e.marks;
  of_part = e.of_part;
  done = e.done;
  of_marks = e.of_marks;
  pipeline = e.pipeline;
  of_state = e.of_state;
  plan = e.plan;
  of_pipeline = e.of_pipeline;
  path = e.path;
  made = subst (λ b. IsMade e.plan e.part e.done.span b e.path content) same e.made;
  called = e.called;
}

expected_stays : (archive later : Held) (s : State) → Grows archive later → IsWithin archive s → TiledState s
    → (job name content : List ℕ) → IsExpected job s archive name content ↔ IsExpected job s later name content
expected_stays archive later s grows within tiled job name content = (
  λ e. read_alike job s archive later name content e (sym (done_bytes_stay archive later s e.part e.marks e.done grows
      within tiled e.of_part e.of_marks)),
  λ e. read_alike job s later archive name content e (done_bytes_stay archive later s e.part e.marks e.done grows within
      tiled e.of_part e.of_marks),
)

pub grown : GrownArchive
grown archive later s grows within tiled rising = record {
  within = λ part m at. let w = within part m at in let g = grows part w.0 w.1 in
      (w.0 ++ g.0, g.1, lies_still w.0 g.0 m w.2);
  counted = counted_stays archive later s grows within tiled rising;
  expected = expected_stays archive later s grows within tiled;
}
