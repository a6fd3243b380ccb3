-- What a machine that was fed some bytes is fed next: the end of a line, bytes that end none, or bytes behind its stop.
use Rattle.std.proofs.Common.{◌≡◌, ℕ, ◌+◌, ◌-◌, true, false, not, ◌||◌, cond, List, [], ◌∷◌, ◌++◌, length}
use Rattle.std.proofs.Common.{if◌then◌else◌, Option, Some, None, refl, sym, ap, ap₂, ◌∙◌, arith, append_assoc}
use Rattle.std.proofs.Common.{append-nil, length-append}
use Rattle.std.proofs.lemmas.List.Sums.{sum_by-append}
use Rattle.gob_bytes.proofs.Cuts.{rest-append}
use Rattle.gob_bytes.specs.Lines.{Line, raw_of, rest, start_from, has_no_feed}
use Rattle.gob_plan.specs.declared.plan.Plan.{Plan}
use Rattle.gob_plan.specs.declared.units.Cause.{Cause}
use Rattle.gob_meaning.specs.Items.{LineMade, line_made}
use Rattle.gob_meaning.specs.Fold.{Folded, folded_line, unit_fold, deliveries_of, counts_of, stop_of}
use Rattle.gob_meaning.specs.Fold.{stops_or, stop_from, line_stop, is_bad, before_stop, before_stop_from}
use Rattle.gob_meaning.specs.Sums.{sum_of}
use Rattle.gob_meaning.specs.Laws.{bad_line_count}
use Rattle.gob_meaning.proofs.Joins.{parts_join}
use Rattle.gob_pipeline.specs.Made.{Buffers, AddsTo}
use Rattle.gob_pipeline.specs.Machine.{MachineValue, is_nil, WasFed, sent_before_stop, Sends, Fed, LineTaken}
use Rattle.gob_pipeline.specs.Machine.{line_start, MachineGoesOn}
use Rattle.gob_pipeline.proofs.Chunks.{rest_ends, rest_grows, rest_starts, nil-append, fold_one, fold_none}
use Rattle.gob_pipeline.proofs.Cuts.{adds_nothing}

-- ---- one line behind others

stop_or_none : (o : Option Cause) → stops_or o (λ c. Some c) None ≡ o
stop_or_none None = refl
stop_or_none (Some c) = refl

stop_one : (left : ℕ) (g : Folded) → stop_from left (g ∷ []) ≡ line_stop left g.at g.made
stop_one left g = stop_or_none (line_stop left g.at g.made)

-- nothing has stopped the lines x, and then comes one more
abbrev Unstopped : Plan → List Folded → Type 0
Unstopped plan x = stop_of plan x ≡ None

stop_more : (plan : Plan) (x : List Folded) (g : Folded) → Unstopped plan x →
    stop_of plan (x ++ g ∷ []) ≡ line_stop (plan.skip_errors - bad_line_count x) g.at g.made
stop_more plan x g none = (parts_join plan x (g ∷ [])).stop
    ∙ ap (λ o. stops_or o (λ c. Some c) (stop_from (plan.skip_errors - bad_line_count x) (g ∷ []))) none
    ∙ stop_one (plan.skip_errors - bad_line_count x) g

before_more : (plan : Plan) (x : List Folded) (g : Folded) → Unstopped plan x →
    deliveries_of (before_stop plan (x ++ g ∷ []))
    ≡ deliveries_of (before_stop plan x)
    ++ deliveries_of (before_stop_from (plan.skip_errors - bad_line_count x) (g ∷ []))
before_more plan x g none =
    let p = parts_join plan x (g ∷ []) in
    let left = plan.skip_errors - bad_line_count x in
    ap deliveries_of (p.before ∙ ap (λ o. stops_or o (λ c. before_stop plan x) (x ++ before_stop_from left (g ∷ [])))
    none)
    ∙ (parts_join plan x (before_stop_from left (g ∷ []))).deliveries
    ∙ ap (λ l. deliveries_of l ++ deliveries_of (before_stop_from left (g ∷ []))) (sym (p.all none))

bad_more : (skip : ℕ) (x : List Folded) (g : Folded) →
    (skip - bad_line_count x) - (if is_bad g.made then 1 else 0) ≡ skip - bad_line_count (x ++ g ∷ [])
bad_more skip x g =
    let e = sum_by-append (λ (f : Folded). cond (is_bad f.made) 1 0) x (g ∷ []) in omega arith

-- what is made of the line that ends where a machine was fed so far
record Ends (plan : Plan) (m : MachineValue) (fed x : List ℕ) (l : LineMade) : Type 0 where
  pub folded : unit_fold plan m.lo (fed ++ (x ++ 10 ∷ []))
      ≡ unit_fold plan m.lo fed ++ record { at = line_start m; made = l } ∷ []

ends_line : (plan : Plan) (m : MachineValue) (fed x : List ℕ) (l : LineMade) → has_no_feed x ≡ true → WasFed plan m fed
    → m.stop ≡ None
    → ((line : Line) → raw_of line ≡ m.line ++ (x ++ 10 ∷ []) → line_made plan (line_start m) line ≡ l)
    → Ends plan m fed x l
ends_line plan m fed x l clear was going made =
    let begun : m.line ≡ rest fed = was.line going in
    let line : Line = record { start = start_from 0 [] fed; body = rest fed ++ x } in
    let begins : start_from 0 [] fed ≡ m.seen - length m.line =
    rest_starts fed ∙ ap₂ (λ a b. a - b) (sym was.seen) (sym (ap length begun)) in
    let raw : raw_of line ≡ m.line ++ (x ++ 10 ∷ []) =
    append_assoc (rest fed) x (10 ∷ []) ∙ ap (λ r. r ++ (x ++ 10 ∷ [])) (sym begun) in
    let at : m.lo + line.start ≡ line_start m = ap (λ n. m.lo + n) begins in
    let folded : folded_line plan m.lo line ≡ record { at = line_start m; made = l } =
    ap (λ n. let f : Folded = record { at = n; made = line_made plan n line } in f) at
    ∙ ap (λ k. let f : Folded = record { at = line_start m; made = k } in f) (made line raw) in
    record { folded = fold_one plan m.lo fed x clear ∙ ap (λ f. unit_fold plan m.lo fed ++ f ∷ []) folded }

nothing_left : (fed x : List ℕ) → rest (fed ++ (x ++ 10 ∷ [])) ≡ []
nothing_left fed x = ap rest (sym (append_assoc fed x (10 ∷ []))) ∙ rest_ends [] (fed ++ x)

sends_line : (plan : Plan) (old : MachineValue) (fed x : List ℕ) (g : Folded) (before after : Buffers)
    → unit_fold plan old.lo (fed ++ (x ++ 10 ∷ [])) ≡ unit_fold plan old.lo fed ++ g ∷ []
    → stop_of plan (unit_fold plan old.lo fed) ≡ None
    → old.bad_left ≡ plan.skip_errors - bad_line_count (unit_fold plan old.lo fed)
    → AddsTo before after (deliveries_of (before_stop_from old.bad_left (g ∷ [])))
    → Sends plan old.lo fed (x ++ 10 ∷ []) before after
unfolding sent_before_stop
sends_line plan old fed x g before after now none left added = record {
  given = deliveries_of (before_stop_from old.bad_left (g ∷ []));
  all = ap (λ f. deliveries_of (before_stop plan f)) now ∙ before_more plan (unit_fold plan old.lo fed) g none
      ∙ ap (λ n. deliveries_of (before_stop plan (unit_fold plan old.lo fed))
      ++ deliveries_of (before_stop_from n (g ∷ [])))
      (sym left);
  added = added;
}

-- the end of a line, where nothing stopped the machine before
pub line_fed : (plan : Plan) (old new : MachineValue) (x : List ℕ) (l : LineMade) (before after : Buffers)
    → has_no_feed x ≡ true → old.stop ≡ None
    → ((line : Line) → raw_of line ≡ old.line ++ (x ++ 10 ∷ []) → line_made plan (line_start old) line ≡ l)
    → MachineGoesOn old new (length (x ++ 10 ∷ [])) false → new.line ≡ []
    → LineTaken plan old new (line_start old) l before after
    → Fed plan old new (x ++ 10 ∷ []) before after
line_fed plan old new x l before after clear going made on empty taken = record {
  lo = on.lo;
  goes = λ fed was.
      let chunk : List ℕ = x ++ 10 ∷ [] in
      let g : Folded = record { at = line_start old; made = l } in
      let folds : List Folded = unit_fold plan old.lo fed in
      let e = ends_line plan old fed x l clear was going made in
      let now : unit_fold plan new.lo (fed ++ chunk) ≡ folds ++ g ∷ [] =
      ap (λ lo. unit_fold plan lo (fed ++ chunk)) on.lo ∙ e.folded in
      let none : stop_of plan folds ≡ None = sym was.stop ∙ going in
      let left : old.bad_left ≡ plan.skip_errors - bad_line_count folds = was.bad_left going in
      let nothing : rest (fed ++ chunk) ≡ [] = nothing_left fed x in (
        record {
          whole = on.whole ∙ was.whole;
          seen = on.seen ∙ ap (λ n. n + length chunk) was.seen ∙ sym (length-append fed chunk);
          stop = taken.stop ∙ ap (λ n. line_stop n g.at g.made) left ∙ sym (stop_more plan folds g none)
              ∙ sym (ap (stop_of plan) now);
          torn = on.torn ∙ sym (ap (λ r. not (is_nil r)) nothing);
          line = λ h. empty ∙ sym nothing;
          counts = λ h. taken.counts h ∙ ap (λ c. sum_of c (counts_of plan (g ∷ []))) (was.counts going)
              ∙ sym ((parts_join plan folds (g ∷ [])).counts) ∙ sym (ap (counts_of plan) now);
          bad_left = λ h. taken.bad_left h ∙ ap (λ n. n - (if is_bad l then 1 else 0)) left
              ∙ bad_more plan.skip_errors folds g ∙ sym (ap (λ f. plan.skip_errors - bad_line_count f) now);
        },
        sends_line plan old fed x g before after e.folded none left taken.added,
      );
}

-- ---- bytes that end no line

sends_none : (plan : Plan) (lo : ℕ) (fed x : List ℕ) (b : Buffers)
    → unit_fold plan lo (fed ++ x) ≡ unit_fold plan lo fed
    → Sends plan lo fed x b b
unfolding sent_before_stop
sends_none plan lo fed x b same = record {
  given = [];
  all = ap (λ f. deliveries_of (before_stop plan f)) same ∙ sym (append-nil _);
  added = adds_nothing b;
}

left_over : (fed x : List ℕ) → has_no_feed x ≡ true → rest (fed ++ x) ≡ rest fed ++ x
left_over fed x h = rest-append fed x [] ∙ rest_grows (rest fed) x h

-- they are what is left of a line, with what was left
pub rest_fed : (plan : Plan) (old new : MachineValue) (x : List ℕ) (b : Buffers) → has_no_feed x ≡ true
    → MachineGoesOn old new (length x) (old.torn || not (is_nil x)) → new.stop ≡ old.stop → new.counts ≡ old.counts
    → new.bad_left ≡ old.bad_left → (old.stop ≡ None → new.line ≡ old.line ++ x) → Fed plan old new x b b
rest_fed plan old new x b clear on stop counts bad_left line = record {
  lo = on.lo;
  goes = λ fed was.
      let now : unit_fold plan new.lo (fed ++ x) ≡ unit_fold plan old.lo fed =
      ap (λ lo. unit_fold plan lo (fed ++ x)) on.lo ∙ fold_none plan old.lo fed x clear in
      let left : rest (fed ++ x) ≡ rest fed ++ x = left_over fed x clear in (
        record {
          whole = on.whole ∙ was.whole;
          seen = on.seen ∙ ap (λ n. n + length x) was.seen ∙ sym (length-append fed x);
          stop = stop ∙ was.stop ∙ sym (ap (stop_of plan) now);
          torn = on.torn ∙ ap (λ t. t || not (is_nil x)) was.torn ∙ sym (nil-append (rest fed) x)
              ∙ sym (ap (λ r. not (is_nil r)) left);
          line = λ h. line (sym stop ∙ h) ∙ ap (λ r. r ++ x) (was.line (sym stop ∙ h)) ∙ sym left;
          counts = λ h. counts ∙ was.counts (sym stop ∙ h) ∙ sym (ap (counts_of plan) now);
          bad_left = λ h. bad_left ∙ was.bad_left (sym stop ∙ h)
              ∙ sym (ap (λ f. plan.skip_errors - bad_line_count f) now);
        },
        sends_none plan old.lo fed x b (fold_none plan old.lo fed x clear),
      );
}

-- ---- behind the stop

stop_stays : (plan : Plan) (x y : List Folded) (c : Cause) → stop_of plan x ≡ Some c → stop_of plan (x ++ y) ≡ Some c
stop_stays plan x y c stopped = (parts_join plan x y).stop
    ∙ ap (λ o. stops_or o (λ d. Some d) (stop_from (plan.skip_errors - bad_line_count x) y)) stopped

before_stays : (plan : Plan) (x y : List Folded) (c : Cause) → stop_of plan x ≡ Some c →
    before_stop plan (x ++ y) ≡ before_stop plan x
before_stays plan x y c stopped = (parts_join plan x y).before
    ∙ ap (λ o. stops_or o (λ d. before_stop plan x) (x ++ before_stop_from (plan.skip_errors - bad_line_count x) y))
    stopped

none_some : {c : Cause} → None ≡ Some c → ⊥
none_some e = cc

sends_nothing : (plan : Plan) (lo : ℕ) (fed x : List ℕ) (b : Buffers)
    → before_stop plan (unit_fold plan lo (fed ++ x)) ≡ before_stop plan (unit_fold plan lo fed)
    → Sends plan lo fed x b b
unfolding sent_before_stop
sends_nothing plan lo fed x b same = record {
  given = [];
  all = ap deliveries_of same ∙ sym (append-nil _);
  added = adds_nothing b;
}

-- a line that ends there makes nothing more
pub passed_fed : (plan : Plan) (old new : MachineValue) (x : List ℕ) (c : Cause) (b : Buffers) → has_no_feed x ≡ true
    → old.stop ≡ Some c → MachineGoesOn old new (length (x ++ 10 ∷ [])) false → new.stop ≡ old.stop
    → Fed plan old new (x ++ 10 ∷ []) b b
passed_fed plan old new x c b clear stopped on stop = record {
  lo = on.lo;
  goes = λ fed was.
      let chunk : List ℕ = x ++ 10 ∷ [] in
      let folds : List Folded = unit_fold plan old.lo fed in
      let more : List Folded = folded_line plan old.lo (record { start = start_from 0 [] fed; body = rest fed ++ x })
      ∷ [] in
      let grown : unit_fold plan old.lo (fed ++ chunk) ≡ folds ++ more = fold_one plan old.lo fed x clear in
      let now : unit_fold plan new.lo (fed ++ chunk) ≡ folds ++ more =
      ap (λ lo. unit_fold plan lo (fed ++ chunk)) on.lo ∙ grown in
      let before : stop_of plan folds ≡ Some c = sym was.stop ∙ stopped in
      let still : new.stop ≡ Some c = stop ∙ stopped in (
        record {
          whole = on.whole ∙ was.whole;
          seen = on.seen ∙ ap (λ n. n + length chunk) was.seen ∙ sym (length-append fed chunk);
          stop = still ∙ sym (ap (stop_of plan) now ∙ stop_stays plan folds more c before);
          torn = on.torn ∙ sym (ap (λ r. not (is_nil r)) (nothing_left fed x));
          line = λ h. absurd (none_some (sym h ∙ still));
          counts = λ h. absurd (none_some (sym h ∙ still));
          bad_left = λ h. absurd (none_some (sym h ∙ still));
        },
        sends_nothing plan old.lo fed chunk b (ap (before_stop plan) grown ∙ before_stays plan folds more c before),
      );
}
