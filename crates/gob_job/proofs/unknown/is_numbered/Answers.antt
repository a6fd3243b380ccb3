use Rattle.std.proofs.Common.{List, ℕ, ◌++◌, sym, ap, ◌∙◌, arith}
use Rattle.gob_job.proofs.Numbered.{no_front, no_dot, no_number, below}
use Rattle.gob_job.proofs.unknown.is_numbered.Goals as goal

pub returns-in_default : goal.returns-in_default
returns-in_default c = no_front c.args.branches c.args.front.now c.args.key.now c.in_default.ensures

pub returns-in_default-behind : goal.returns-in_default-behind
returns-in_default-behind c = no_dot c.args.branches c.args.front.now c.args.key.now c.in-Some.rest.now
    c.in-Some.ensures c.in_default-behind.ensures

pub returns-in_default-read_u64 : goal.returns-in_default-read_u64
returns-in_default-read_u64 c =
    no_number c.args.branches c.args.front.now c.args.key.now c.in-Some-behind.number.now
    (omega (arith, c.ranges.branches.fits))
    (c.in-Some.ensures ∙ ap (λ (x : List ℕ). c.args.front.now ++ x) c.in-Some-behind.ensures)
    (sym c.read_u64.ensures ∙ c.in_default-read_u64.is)

pub returns : goal.returns
returns c =
    below c.args.branches c.args.front.now c.args.key.now c.in-Some-behind.number.now c.in-Some-read_u64.branch
    (omega (arith, c.ranges.branches.fits))
    (c.in-Some.ensures ∙ ap (λ (x : List ℕ). c.args.front.now ++ x) c.in-Some-behind.ensures)
    (sym c.read_u64.ensures ∙ c.in-Some-read_u64.is)
