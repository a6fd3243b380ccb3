use Rattle.std.proofs.Common.{ap, sym, ◌∙◌, lit<, Some, None, []}
use Rattle.std.specs.Prelude.{unwrap_or}
use Rattle.std.proofs.lemmas.Str.Pattern.{split_parts}
use Rattle.gob_ledger.specs.Groups as groups
use Rattle.gob_judge.proofs.VerdictLemmas.{before_first_slash, before_no_slash}
use Rattle.gob_judge.proofs.commit.dataset_of.Goals as goal

pub returns-in-Some : goal.returns-in-Some
returns-in-Some c =
    let parts = split_parts 47 c.args.part.now (Some (c.in-Some.dataset, c.in-Some.field-0-1)) c.in-Some.ensures.cases
    (lit< tt) in
    sym (ap (λ t. groups.dataset_of t) parts.0
    ∙ ap (λ o. unwrap_or o []) (before_first_slash c.in-Some.dataset.now c.in-Some.field-0-1.now parts.1))

pub returns-in-None : goal.returns-in-None
returns-in-None c =
    sym (ap (λ o. unwrap_or o []) (before_no_slash c.args.part.now
    (split_parts 47 c.args.part.now None c.in-None.ensures.cases (lit< tt))))
