use Rattle.std.proofs.Common.{◌≡◌, ◌≤◌, ◌+◌, nat_eq, drop}
use Rattle.std.specs.List.{count_by}
use Rattle.gob_state.proofs.push.line_count.Given as goal

abbrev pub invariant-loop-i : goal.invariant-loop-i
invariant-loop-i l = record {
  counted : l.lines + count_by (λ b. nat_eq b 10) (drop l.i l.fn.text) ≡ count_by (λ b. nat_eq b 10) l.fn.text;
  few : l.lines ≤ l.i;
}
