use Rattle.std.proofs.Common.{◌≡◌, ◌<◌, ℕ, ◌≢◌, false, nat_eq, length, sym, ◌∙◌, ap, arith}
use Rattle.std.specs.Str.{chars}
use Rattle.std.proofs.lemmas.Str.{chars-nil}
use Rattle.std.proofs.lemmas.Bool.Decides.{nat_tests}
use Rattle.gob_plan.proofs.Along.{star_decides, end_decides, along_star, along_stops, along_short}
use Rattle.gob_plan.proofs.Along.{along_end, chars_left, none_is}
use Rattle.gob_plan.proofs.like.go_along.Goals as goal

pub returns-then-p-eq42 : goal.returns-then-p-eq42
returns-then-p-eq42 c =
    let now = along_star (chars c.loop-p.pattern.now) (chars c.loop-p.text.now) c.in-Some.p
    (chars c.in-Some.after.now) c.in-Some.ensures.0 c.if-p-eq42.true in
    let first = sym c.loop-p.invariant.same ∙ now in
    let decided = star_decides (chars c.args.pattern.now) (chars c.args.text.now) (chars c.in-Some.after.now)
    (chars c.loop-p.text.now) first in
    let less : length c.in-Some.after.now < length c.loop-p.pattern.now = c.in-Some.ensures.1 in
    let most = c.loop-p.invariant.shorter in
    record {
      whole = decided.0;
      ending = decided.1;
      shorter = omega (arith, less, most);
      no_longer =
          c.loop-p.invariant.no_longer;
    }

no_star : (p : ℕ) → p ≢ 42 → nat_eq p 42 ≡ false
no_star p apart = grind (arith, nat_tests)

pub returns-in_default-split_first : goal.returns-in_default-split_first
returns-in_default-split_first c =
    let over = ap chars c.in_default-split_first.ensures ∙ chars-nil in
    let now = along_short (chars c.loop-p.pattern.now) (chars c.loop-p.text.now) c.in-Some.p
    (chars c.in-Some.after.now) c.in-Some.ensures.0 over (no_star c.in-Some.p c.if-p-eq42.false) in
    end_decides (chars c.args.pattern.now) (chars c.args.text.now) false (sym c.loop-p.invariant.same ∙ now)

pub returns-then-not-stands_for : goal.returns-then-not-stands_for
returns-then-not-stands_for c =
    let apart = no_star c.in-Some.p c.if-p-eq42.false in
    let now = along_stops (chars c.loop-p.pattern.now) (chars c.loop-p.text.now) c.in-Some.p
    (chars c.in-Some.after.now) c.in-Some-split_first.c
    (chars c.in-Some-split_first.rest.now) c.in-Some.ensures.0 c.in-Some-split_first.ensures.0 apart
    (sym c.if-not-stands_for.ensures) in
    end_decides (chars c.args.pattern.now) (chars c.args.text.now) false (sym c.loop-p.invariant.same ∙ now)

pub returns : goal.returns
returns c =
    let over = ap chars c.in_default.ensures ∙ chars-nil in
    let now = along_end (chars c.loop-p.pattern.now) (chars c.loop-p.text.now) c.split_first-2.result over
    (chars_left c.loop-p.text.now c.split_first-2.result c.split_first-2.ensures) in
    end_decides (chars c.args.pattern.now) (chars c.args.text.now) _ (sym c.loop-p.invariant.same ∙ now)
    ∙ none_is _ _ c.is_none.ensures
