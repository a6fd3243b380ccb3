-- The states of a machine that is fed.
use Rattle.std.proofs.Common.{◌≡◌, ◌≢◌, ℕ, zero, suc, ◌+◌, ◌-◌, ◌<◌, ◌≤◌, Bool, true, false, not, ◌&&◌, ◌||◌, nat_eq}
use Rattle.std.proofs.Common.{List, [], ◌∷◌, ◌++◌, length, map, get_or, take, drop, Option, Some, None, refl, sym, ap}
use Rattle.std.proofs.Common.{ap₂, ◌∙◌}
use Rattle.std.proofs.Common.{subst, arith, append_assoc, length-append}
use Rattle.std.proofs.lemmas.Bool.{and_from, ne_eqb}
use Rattle.std.proofs.Math.Seq.{take-append_seam}
use Rattle.std.specs.List.{range_with_len}
use Rattle.gob_bytes.specs.Lines.{Line, raw_of, has_no_feed}
use Rattle.gob_plan.specs.declared.plan.Plan.{Plan}
use Rattle.gob_plan.specs.declared.units.Cause.{Cause}
use Rattle.gob_plan.specs.declared.units.BranchCounts.{BranchCounts}
use Rattle.gob_meaning.specs.Items.{LineMade}
use Rattle.gob_meaning.specs.Fold.{branch_counts, counts_of, stop_of, unit_fold}
use Rattle.gob_meaning.specs.Laws.{bad_line_count}
use Rattle.gob_meaning.specs.Sums.{sum_of}
use Rattle.gob_pipeline.specs.Made.{Buffers}
use Rattle.gob_pipeline.specs.Machine.{MachineValue, WasFed, Fed, MachineGoesOn, LineTaken, line_start}
use Rattle.gob_pipeline.specs.Taking.{TakesLine, LineMakes, EndsAt, IsOneLine, counts_of_line, line_folds, none_counted}
use Rattle.gob_pipeline.specs.Taking.{zero_counts}
use Rattle.gob_pipeline.specs.States.{TakesEnd, state_value}
use Rattle.gob_pipeline.specs.declared.machine.State.{State}
use Rattle.gob_pipeline.proofs.Cuts.{fed_nothing, fed_then}
use Rattle.gob_pipeline.proofs.Lines.{line_fed, passed_fed}

-- ---- where a line ends

pub no_feed : (bs : List ℕ) → ((j : ℕ) → j < length bs → get_or bs j 0 ≢ 10) → has_no_feed bs ≡ true
no_feed [] none = refl
no_feed (b ∷ bs) none =
    and_from _ _ (ap not (ne_eqb b 10 (none 0 (omega arith)))) (no_feed bs (λ j lt. none (suc j) (omega (arith, lt))))

pub first_feed : (bs : List ℕ) (k : ℕ) → k < length bs → get_or bs k 0 ≡ 10 → ((j : ℕ) → j < k → get_or bs j 0 ≢ 10)
    → EndsAt bs (Some (k + 1))
first_feed [] k lt is none = absurd (omega arith)
first_feed (b ∷ bs) zero lt is none = ([], bs, ap (λ c. c ∷ bs) is, refl, omega arith)
first_feed (b ∷ bs) (suc k) lt is none =
    let later = first_feed bs k (omega arith) is (λ j below. none (suc j) (omega (arith, below))) in (
      b ∷ later.0,
      later.1,
      ap (λ l. b ∷ l) later.2,
      and_from _ _ (ap not (ne_eqb b 10 (none 0 (omega arith)))) later.3,
      omega (arith, later.4),
    )

-- the first line and what comes behind it
pub record SplitOff (bytes : List ℕ) (e : ℕ) : Type 0 where
  pub line : IsOneLine (take e bytes)
  pub whole : bytes ≡ take e bytes ++ drop e bytes
  pub within : e ≤ length bytes
  pub some : 0 < e

drop-length : (a b : List ℕ) → drop (length a) (a ++ b) ≡ b
drop-length [] b = refl
drop-length (x ∷ a) b = drop-length a b

pub split_off : (bytes : List ℕ) (e : ℕ) → EndsAt bytes (Some e) → SplitOff bytes e
split_off bytes e (x, y, is, clear, at) =
    let line : List ℕ = x ++ 10 ∷ [] in
    let long : length line ≡ e = length-append x (10 ∷ []) ∙ sym at in
    let parts : bytes ≡ line ++ y = is ∙ sym (append_assoc x (10 ∷ []) y) in
    let front : take e bytes ≡ line = ap₂ take (sym long) parts ∙ take-append_seam line y in
    let back : drop e bytes ≡ y = ap₂ drop (sym long) parts ∙ drop-length line y in
    let total : length bytes ≡ length line + length y = ap length parts ∙ length-append line y in
    record {
      line = (x, front, clear);
      whole = parts ∙ ap₂ (λ a b. a ++ b) (sym front) (sym back);
      within = omega (arith, long, total);
      some = omega (arith, at);
    }

-- ---- one line

pub line_passed : (plan : Plan) (old new : MachineValue) (chunk : List ℕ) (c : Cause) (b : Buffers) → IsOneLine chunk
    → old.stop ≡ Some c → MachineGoesOn old new (length chunk) false → new.stop ≡ old.stop → Fed plan old new chunk b b
line_passed plan old new chunk c b one stopped on stop =
    subst (λ l. Fed plan old new l b b) (sym one.1)
    (passed_fed plan old new one.0 c b one.2 stopped (subst (λ l. MachineGoesOn old new (length l) false) one.1 on)
    stop)

pub line_ended : (plan : Plan) (old mid : State) (new : MachineValue) (chunk : List ℕ) (before after : Buffers)
    → IsOneLine chunk → old.tally.stop ≡ None → TakesEnd plan old mid chunk before after
    → MachineGoesOn (state_value old) new (length chunk) false → new.line ≡ mid.line.items → new.stop ≡ mid.tally.stop
    → new.counts ≡ mid.tally.counts → new.bad_left ≡ mid.tally.bad_left
    → Fed plan (state_value old) new chunk before after
line_ended plan old mid new chunk before after one going t on line stop counts left =
    let at = line_start (state_value old) in
    let taken : LineTaken plan (state_value old) new at t.made before after = record {
      stop = stop ∙ t.taken.stop;
      added = t.taken.added;
      counts = λ h. counts ∙ t.taken.counts (sym stop ∙ h);
      bad_left = λ h. left ∙ t.taken.bad_left (sym stop ∙ h);
    } in
    subst (λ l. Fed plan (state_value old) new l before after) (sym one.1)
    (line_fed plan (state_value old) new one.0 t.made before after one.2 going
    (λ l e. t.makes l (e ∙ ap (λ r. old.line.items ++ r) (sym one.1)))
    (subst (λ l. MachineGoesOn (state_value old) new (length l) false) one.1 on) (line ∙ t.line) taken)

counts_same : (plan : Plan) (at : ℕ) (l : LineMade)
    → counts_of_line (length plan.branches) l ≡ counts_of plan (line_folds at l)
unfolding counts_of
counts_same plan at l = refl

pub end_taken : (plan : Plan) (old new : State) (last raw : List ℕ) (at : ℕ) (before after : Buffers)
    → TakesLine plan old.tally new.tally at raw before after → raw ≡ old.line.items ++ last
    → at ≡ line_start (state_value old) → new.broken ≡ old.broken → new.line.items ≡ []
    → TakesEnd plan old new last before after
end_taken plan old new last raw at before after t raw_is at_is whole line = record {
  whole = whole;
  line = line;
  made = t.line;
  makes = subst (λ r. LineMakes plan (line_start (state_value old)) r t.line) raw_is
      (subst (λ n. LineMakes plan n raw t.line) at_is t.makes);
  taken = subst (λ n. LineTaken plan (state_value old) (state_value new) n t.line before after) at_is (record {
    stop = t.stop;
    added = t.added;
    counts = λ h. t.counts h ∙ ap (sum_of old.tally.counts) (counts_same plan at t.line);
    bad_left = t.bad_left;
  });
}

-- ---- a piece

-- so much of the piece was fed
pub record FedSoFar (plan : Plan) (first now : State) (piece left : List ℕ) (before after : Buffers) : Type 0 where
  pub front : List ℕ
  pub whole : piece ≡ front ++ left
  pub seen : now.seen ≡ first.seen + length front
  pub fed : Fed plan (state_value first) (state_value now) front before after

pub fed_first : (plan : Plan) (first : State) (piece : List ℕ) (b : Buffers) → FedSoFar plan first first piece piece b b
fed_first plan first piece b = record {
  front = [];
  whole = refl;
  seen = omega arith;
  fed = fed_nothing plan (state_value first) b;
}

pub fed_on : (plan : Plan) (first now next : State) (piece left line rest : List ℕ) (before so_far after : Buffers)
    → FedSoFar plan first now piece left before so_far → left ≡ line ++ rest
    → Fed plan (state_value now) (state_value next) line so_far after → next.seen ≡ now.seen + length line
    → FedSoFar plan first next piece rest before after
fed_on plan first now next piece left line rest before so_far after f split fed seen =
    let total : length (f.front ++ line) ≡ length f.front + length line = length-append f.front line in
    let was : now.seen ≡ first.seen + length f.front = f.seen in
    record {
      front = f.front ++ line;
      whole = f.whole ∙ ap (λ l. f.front ++ l) split ∙ sym (append_assoc f.front line rest);
      seen = omega (arith, total, was, seen);
      fed = fed_then plan (state_value first) (state_value now) (state_value next) f.front line before so_far after
          f.fed fed;
    }

-- how much is left of it
pub left_of : (plan : Plan) (first now : State) (piece left : List ℕ) (before after : Buffers)
    → FedSoFar plan first now piece left before after → now.seen + length left ≡ first.seen + length piece
left_of plan first now piece left before after f =
    let total : length piece ≡ length f.front + length left = ap length f.whole ∙ length-append f.front left in
    let was : now.seen ≡ first.seen + length f.front = f.seen in
    omega (arith, total, was)

pub fed_whole : (plan : Plan) (first now next : State) (piece left : List ℕ) (before after : Buffers)
    → FedSoFar plan first now piece left before after → Fed plan (state_value now) (state_value next) left after after
    → Fed plan (state_value first) (state_value next) piece before after
fed_whole plan first now next piece left before after f fed =
    subst (λ l. Fed plan (state_value first) (state_value next) l before after) (sym f.whole)
    (fed_then plan (state_value first) (state_value now) (state_value next) f.front left before after after f.fed fed)

-- ---- a new machine

none_in : (start n : ℕ) → none_counted n ≡ map (branch_counts []) (range_with_len start n)
none_in start zero = refl
none_in start (suc n) = ap (λ (bs : List BranchCounts). record { written = 0; errors = 0; optional = 0 } ∷ bs)
    (none_in (start + 1) n)

pub none_more : (n : ℕ) → none_counted n ++ record { written = 0; errors = 0; optional = 0 } ∷ []
    ≡ none_counted (suc n)
none_more zero = refl
none_more (suc n) = ap (λ (bs : List BranchCounts). record { written = 0; errors = 0; optional = 0 } ∷ bs) (none_more n)

pub none_length : (n : ℕ) → length (none_counted n) ≡ n
none_length zero = refl
none_length (suc n) = ap suc (none_length n)

no_counts_of : (plan : Plan) → zero_counts (length plan.branches) ≡ counts_of plan []
unfolding counts_of
no_counts_of plan = λ k. record {
  records = 0;
  bad = 0;
  rows = 0;
  unrouted = 0;
  branches = none_in 0 (length plan.branches) k;
}

nothing_folded : (plan : Plan) (lo : ℕ) → unit_fold plan lo [] ≡ []
unfolding unit_fold Rattle.gob_bytes.specs.Lines.lines_from
nothing_folded plan lo = refl

nothing_stops : (plan : Plan) → None ≡ stop_of plan []
unfolding stop_of
nothing_stops plan = refl

pub new_was_fed : (plan : Plan) (m : MachineValue) → m.seen ≡ 0 → m.line ≡ []
    → m.counts ≡ zero_counts (length plan.branches)
    → m.bad_left ≡ plan.skip_errors → m.stop ≡ None → m.torn ≡ false → m.broken ≡ false → WasFed plan m []
unfolding Rattle.gob_bytes.specs.Lines.rest_from
new_was_fed plan m seen line counts left stop torn whole =
    let none = sym (nothing_folded plan m.lo) in
    record {
      whole = whole;
      seen = seen;
      stop = stop ∙ nothing_stops plan ∙ ap (stop_of plan) none;
      torn = torn;
      line = λ h. line;
      counts = λ h. counts ∙ no_counts_of plan ∙ ap (counts_of plan) none;
      bad_left = λ h. left ∙ sub_none plan.skip_errors ∙ ap (λ f. plan.skip_errors - bad_line_count f) none;
    }
  where
    sub_none : (n : ℕ) → n ≡ n - 0
    sub_none n = omega arith

pub no_items : (xs : List ℕ) → length xs ≡ 0 → xs ≡ []
no_items [] e = refl
no_items (x ∷ xs) e = absurd (omega (arith, e))
