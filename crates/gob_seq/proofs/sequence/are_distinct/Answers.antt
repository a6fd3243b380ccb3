use Rattle.std.proofs.Common.{◌∙◌, get_or, sym, ap, refl}
use Rattle.std.proofs.Common.{rules}
use Rattle.std.specs.List.{list_any}
use Rattle.std.specs.Str.{bytes_eq}
use Rattle.std.proofs.lemmas.Bool.{false≢true, not-false, not-true}
use Rattle.gob_bytes.proofs.Once.{none_twice}
use Rattle.gob_seq.proofs.Once.{Name, all_seen, apart_more, no_name, seen_more}
use Rattle.gob_seq.proofs.Once.{stands_twice}
use Rattle.gob_seq.proofs.sequence.are_distinct.Goals as goal

pub loop-name-init : goal.loop-name-init
loop-name-init c = record {
  apart = none_twice;
  seen = λ q. ap (list_any (λ (n : Name). bytes_eq q.now n.now)) c.new-seen.ensures.empty;
}

pub returns-then-not-branch : goal.returns-then-not-branch
returns-then-not-branch c =
    let x : Name = get_or c.args.names.now c.loop-name.name-index no_name in
    let hit = not-false _ (sym (c.in_ok-insert.ensures.added) ∙ c.if-not-branch.true) in (
      λ e. absurd (false≢true e),
      λ apart. absurd (stands_twice c.args.names.now c.loop-name.name-index (search rules)
          (sym (c.loop-name.invariant.seen x) ∙ hit) apart),
    )

pub loop-name-preserved : goal.loop-name-preserved
loop-name-preserved c =
    let x : Name = get_or c.args.names.now c.loop-name.name-index no_name in
    let new = not-true _ (sym (c.in_ok-insert.ensures.added) ∙ c.if-not-branch.false) in
    record {
      apart = apart_more c.args.names.now c.loop-name.name-index (search rules) c.loop-name.invariant.apart
          (sym (c.loop-name.invariant.seen x) ∙ new);
      seen = λ q. seen_more c.args.names.now c.loop-name.name-index q.now _ _ (search rules)
          (c.loop-name.invariant.seen q) (c.in_ok-insert.ensures.updates.0 q);
    }

pub returns : goal.returns
returns c = (
  λ e. all_seen c.args.names.now c.loop-name.name-index (search rules) c.loop-name.invariant.apart,
  λ apart. refl,
)
