-- The ranges of a partition by their offsets: they tile it exactly where each begins at the end of the one before.
use Rattle.std.proofs.Common.{◌≡◌, ◌⊎◌, inl, inr, ⊎_elim, ℕ, ◌+◌, ◌-◌, ◌<◌, ◌≤◌, Bool, true, false, cond, ◌&&◌, nat_lt}
use Rattle.std.proofs.Common.{nat_le, List, [], ◌∷◌, map, refl, sym, ap, ◌∙◌, arith}
use Rattle.std.specs.List.{AllByRecursion}
use Rattle.std.proofs.lemmas.Bool.{and_from, and_parts, cases_lt, le-leb, le-ltb, leb-true, lt-leb, lt-ltb}
use Rattle.gob_ledger.specs.Marks.{Marks, Done, Span, done_spans, InOrder, Tiled}
use Rattle.gob_ledger.proofs.Members.{map_in}
use Rattle.gob_ledger.proofs.Merging.{starts_apart}
use Rattle.gob_ledger.proofs.Ranges.{one_in, times, covered-is, inside, order_from, order_members}
use Rattle.gob_ledger.proofs.Reading.{gathered}
use Rattle.gob_ledger.proofs.StateLines.{from_members, Range, lo_of, mixed, mixed_each, mixed_rises, put_range}
use Rattle.gob_ledger.proofs.StateLines.{rises_from}

abbrev pub span_in : Range → Span
span_in (inl d) = d.span
span_in (inr s) = s

-- each range begins where the one before ends, the first at low, and the last ends at high
abbrev pub InLine : ℕ → List Range → ℕ → Type 0
InLine low [] high = low ≡ high
InLine low (r ∷ rs) high = ((span_in r).lo ≡ low) × ((span_in r).lo < (span_in r).hi) × InLine (span_in r).hi rs high

-- in how many ranges an offset lies
abbrev pub times_in : ℕ → List Range → ℕ
times_in at rs = times at (map span_in rs)

-- ---- ranges in line tile

line_ends_above : (low : ℕ) (rs : List Range) (high : ℕ) → InLine low rs high → low ≤ high
line_ends_above low [] high line = omega (arith, line)
line_ends_above low (r ∷ rs) high (at, some, rest) =
    let above = line_ends_above (span_in r).hi rs high rest in omega (arith, at, some, above)

done_in_order : (low : ℕ) (rs : List Range) (high : ℕ) → InLine low rs high → InOrder low (done_spans (gathered rs))
done_in_order low [] high line = tt
done_in_order low (inl d ∷ rs) high (at, some, rest) = (omega (arith, at), some, done_in_order d.span.hi rs high rest)
done_in_order low (inr s ∷ rs) high (at, some, rest) =
    order_from low s.hi (done_spans (gathered rs)) (omega (arith, at, some)) (done_in_order s.hi rs high rest)

owed_in_order : (low : ℕ) (rs : List Range) (high : ℕ) → InLine low rs high → InOrder low (gathered rs).owed
owed_in_order low [] high line = tt
owed_in_order low (inl d ∷ rs) high (at, some, rest) =
    order_from low d.span.hi (gathered rs).owed (omega (arith, at, some)) (owed_in_order d.span.hi rs high rest)
owed_in_order low (inr s ∷ rs) high (at, some, rest) = (omega (arith, at), some, owed_in_order s.hi rs high rest)

times_of_kinds : (at : ℕ) (rs : List Range)
    → times at (done_spans (gathered rs)) + times at (gathered rs).owed ≡ times_in at rs
times_of_kinds at [] = refl
times_of_kinds at (inl d ∷ rs) = let later = times_of_kinds at rs in omega (arith, later)
times_of_kinds at (inr s ∷ rs) = let later = times_of_kinds at rs in omega (arith, later)

outside : (at : ℕ) (s : Span) → (at < s.lo) ⊎ (s.hi ≤ at) → one_in at s ≡ 0
outside at s (inl below) = ap (λ b. cond (b && nat_lt at s.hi) 1 0) (lt-leb s.lo at below)
outside at s (inr above) = ap (λ b. cond b 1 0) (both_false (nat_le s.lo at) (nat_lt at s.hi) (le-ltb at s.hi above))
  where
    both_false : (a b : Bool) → b ≡ false → (a && b) ≡ false
    both_false true b e = e
    both_false false b e = refl

covered_once : (at : ℕ) (s : Span) → s.lo ≤ at → at < s.hi → one_in at s ≡ 1
covered_once at s low high = ap (λ b. cond b 1 0) (inside at s low high)

line_once : (low : ℕ) (rs : List Range) (high at : ℕ) → InLine low rs high → low ≤ at
    → times_in at rs ≡ cond (nat_lt at high) 1 0
line_once low [] high at line above = sym (ap (λ b. cond b 1 0) (le-ltb at high (omega (arith, line, above))))
line_once low (r ∷ rs) high at (start, some, rest) above = ⊎_elim
    (λ inside_it.
    let here = covered_once at (span_in r) (omega (arith, start, above)) inside_it in
    let later = times_before (span_in r).hi rs high at rest inside_it in
    let ends = line_ends_above (span_in r).hi rs high rest in
    (λ i. here i + later i) ∙ sym (ap (λ b. cond b 1 0) (lt-ltb at high (omega (arith, inside_it, ends)))))
    (λ past.
    let here = outside at (span_in r) (inr past) in
    let later = line_once (span_in r).hi rs high at rest past in
    ap (λ n. n + times_in at rs) here ∙ (let same : 0 + times_in at rs ≡ times_in at rs = omega arith in same)
    ∙ later)
    (cases_lt at (span_in r).hi)
  where
    times_before : (low : ℕ) (rs : List Range) (high at : ℕ) → InLine low rs high → at < low → times_in at rs ≡ 0
    times_before low [] high at line before = refl
    times_before low (r ∷ rs) high at (start, some, rest) before =
        let here = outside at (span_in r) (inl (omega (arith, start, before))) in
        let later = times_before (span_in r).hi rs high at rest (omega (arith, start, some, before)) in
        (λ i. here i + later i)

-- ranges in line from 0 on tile up to their end
pub line_tiles : (rs : List Range) (next : ℕ) → InLine 0 rs next → Tiled (record (gathered rs) { next = next })
line_tiles rs next line = record {
  finished = done_in_order 0 rs next line;
  owed = owed_in_order 0 rs next line;
  once = λ at. covered-is at (record (gathered rs) { next = next }) ∙ times_of_kinds at rs
      ∙ line_once 0 rs next at line (omega arith);
}

-- ---- ranges that tile are in line

times_put : (at : ℕ) (r : Range) (rs : List Range)
    → times_in at (put_range r rs) ≡ one_in at (span_in r) + times_in at rs
times_put at r [] = refl
times_put at r (q ∷ qs) = elim (nat_lt (lo_of r) (lo_of q)) as
    (λ b. times_in at (cond b (r ∷ q ∷ qs) (q ∷ put_range r qs)) ≡ one_in at (span_in r) + times_in at (q ∷ qs)) [
      | true ↦ refl
      | false ↦ let later = times_put at r qs in omega (arith, later)
    ]

times_mixed : (at : ℕ) (ds : List Done) (os : List Span)
    → times_in at (mixed ds os) ≡ times at (map (λ (d : Done). d.span) ds) + times at os
times_mixed at [] os = owed_alone os ∙ (let same : times at os ≡ 0 + times at os = omega arith in same)
  where
    owed_alone : (os : List Span) → times_in at (map inr os) ≡ times at os
    owed_alone [] = refl
    owed_alone (o ∷ os) = ap (λ n. one_in at o + n) (owed_alone os)
times_mixed at (d ∷ ds) os =
    let later = times_mixed at ds os in times_put at (inl d) (mixed ds os) ∙ omega (arith, later)

same_lo : (r : Range) → lo_of r ≡ (span_in r).lo
same_lo (inl d) = refl
same_lo (inr s) = refl

-- below the first offset lies no range
none_before : (at low : ℕ) (rs : List Range) → rises_from low rs ≡ true → at < low → times_in at rs ≡ 0
none_before at low [] rise before = refl
none_before at low (r ∷ rs) rise before =
    let p = and_parts (nat_le low (lo_of r)) (rises_from (lo_of r + 1) rs) rise in
    let above = leb-true low (lo_of r) p.0 in
    let start = same_lo r in
    let here = outside at (span_in r) (inl (omega (arith, above, start, before))) in
    let later = none_before at (lo_of r + 1) rs p.1 (omega (arith, above, before)) in
    (λ i. here i + later i)

abbrev NotEmpty : Range → Type 0
NotEmpty r = (span_in r).lo < (span_in r).hi

abbrev Once : ℕ → ℕ → List Range → Type 0
Once low high rs = (at : ℕ) → low ≤ at → times_in at rs ≡ cond (nat_lt at high) 1 0

full : (at high : ℕ) → at < high → ◌≡◌ {A = ℕ} (cond (nat_lt at high) 1 0) 1
full at high below = ap (λ b. cond b 1 0) (lt-ltb at high below)

free : (at high : ℕ) → high ≤ at → ◌≡◌ {A = ℕ} (cond (nat_lt at high) 1 0) 0
free at high above = ap (λ b. cond b 1 0) (le-ltb at high above)

-- what is covered lies below the end
covered_below : (low high : ℕ) (rs : List Range) (at : ℕ) → Once low high rs → low ≤ at → 1 ≤ times_in at rs → at < high
covered_below low high rs at once above some = ⊎_elim
    (λ l. l)
    (λ g. absurd (let n = once at above in let z = free at high g in omega (arith, n, z, some)))
    (cases_lt at high)

behind_first : (r : Range) (rs : List Range) (high : ℕ) → NotEmpty r → AllByRecursion NotEmpty rs
    → rises_from (lo_of r + 1) rs ≡ true
    → Once (span_in r).lo high (r ∷ rs) → rises_from (span_in r).hi rs ≡ true
behind_first r [] high some all rise once = refl
behind_first r (q ∷ qs) high some all rise once =
    let p = and_parts (nat_le (lo_of r + 1) (lo_of q)) (rises_from (lo_of q + 1) qs) rise in
    let above = leb-true (lo_of r + 1) (lo_of q) p.0 in
    let sr = same_lo r in
    let sq = same_lo q in
    let far : (span_in r).hi ≤ lo_of q = ⊎_elim
    (λ l. absurd (
    let at : ℕ = (span_in q).lo in
    let one = covered_once at (span_in r) (omega (arith, above, sr, sq)) (omega (arith, l, sq)) in
    let two = covered_once at (span_in q) (omega arith) all.0 in
    let n = once at (omega (arith, above, sr, sq)) in
    let most = at_most_one (nat_lt at high) in omega (arith, one, two, n, most)))
    (λ g. g)
    (cases_lt (lo_of q) (span_in r).hi) in
    and_from (nat_le (span_in r).hi (lo_of q)) (rises_from (lo_of q + 1) qs) (le-leb (span_in r).hi (lo_of q) far) p.1
  where
    at_most_one : (b : Bool) → cond b 1 0 ≤ 1
    at_most_one true = omega arith
    at_most_one false = omega arith

line_up : (low high : ℕ) (rs : List Range) → low ≤ high → rises_from low rs ≡ true → AllByRecursion NotEmpty rs
    → Once low high rs → InLine low rs high
line_up low high [] below rise all once = ⊎_elim
    (λ l. absurd (let n = once low (omega arith) in let one = full low high l in omega (arith, n, one)))
    (λ g. omega (arith, g, below))
    (cases_lt low high)
line_up low high (r ∷ rs) below rise all once =
    let p = and_parts (nat_le low (lo_of r)) (rises_from (lo_of r + 1) rs) rise in
    let above : low ≤ lo_of r = leb-true low (lo_of r) p.0 in
    let sr = same_lo r in
    let first = covered_once (span_in r).lo (span_in r) (omega arith) all.0 in
    let inner = covered_below low high (r ∷ rs) (span_in r).lo once (omega (arith, above, sr)) (omega (arith, first)) in
    let start : (span_in r).lo ≡ low = ⊎_elim
    (λ l. absurd (
    let n = once low (omega arith) in
    let one = full low high (omega (arith, l, inner)) in
    let here = outside low (span_in r) (inl l) in
    let later = none_before low (lo_of r + 1) rs p.1 (omega (arith, l, sr)) in
    omega (arith, n, one, here, later)))
    (λ g. omega (arith, g, above, sr))
    (cases_lt low (span_in r).lo) in
    let hi = (span_in r).hi in
    let last : ℕ = hi - 1 in
    let some = all.0 in
    let end_one = covered_once last (span_in r) (omega (arith, some)) (omega (arith, some)) in
    let end = covered_below low high (r ∷ rs) last once (omega (arith, start, some)) (omega (arith, end_one)) in
    let rises = behind_first r rs high all.0 all.1 p.1 (λ at a. once at (omega (arith, a, start))) in (
      start,
      all.0,
      line_up hi high rs (omega (arith, end, some)) rises all.1
          (λ at a. let n = once at (omega (arith, a, start, some)) in let here = outside at (span_in r) (inr a) in
          omega (arith, n, here)),
    )

-- ranges that tile are in line, by their offsets, from 0 to next
pub tiled_in_line : (m : Marks) → Tiled m → InLine 0 (mixed m.finished m.owed) m.next
tiled_in_line m tiled =
    line_up 0 m.next (mixed m.finished m.owed) (omega arith)
    (mixed_rises 0 m.finished m.owed tiled.finished tiled.owed (starts_apart m tiled))
    (mixed_each NotEmpty m.finished m.owed
    (from_members (λ (d : Done). d.span.lo < d.span.hi) m.finished
    (λ d h. (order_members 0 (done_spans m) d.span tiled.finished
    (map_in (λ (x : Done). x.span) m.finished d h)).1))
    (from_members (λ (s : Span). s.lo < s.hi) m.owed (λ s h. (order_members 0 m.owed s tiled.owed h).1)))
    (λ at above. times_mixed at m.finished m.owed ∙ sym (covered-is at m) ∙ tiled.once at)
