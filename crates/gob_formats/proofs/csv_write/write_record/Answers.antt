use Rattle.std.proofs.Common.{◌≡◌, [], ◌∷◌, ◌++◌, length, ap, ◌∙◌, arith}
use Rattle.std.proofs.lemmas.Result.{on_ok_weaker}
use Rattle.gob_formats.specs.Fields.{record_body}
use Rattle.gob_formats.proofs.Written.{nothing_added, something_added, blank_record, some_record}
use Rattle.gob_formats.proofs.csv_write.write_record.Goals as goal

pub returns-then-len-before-clause-ok : goal.returns-then-len-before-clause-ok
returns-then-len-before-clause-ok c =
    let old = c.args.into.now.items in
    let body = record_body c.args.values.now in
    let grown = ap length c.in_ok-write_body.ensures.ok in
    let same : length (old ++ body) ≡ length old =
    omega (arith, c.args.into.now.ok.0, c.write_body.new.into.ok.0) in
    on_ok_weaker c.add.result
    (λ is. is ∙ ap (λ t. t ++ 34 ∷ 34 ∷ 10 ∷ []) c.in_ok-write_body.ensures.ok
    ∙ blank_record old c.args.values.now (nothing_added old body same))
    c.add.ensures.ok

pub returns-clause-ok : goal.returns-clause-ok
returns-clause-ok c =
    let old = c.args.into.now.items in
    let body = record_body c.args.values.now in
    let grown = ap length c.in_ok-write_body.ensures.ok in
    let differ : length (old ++ body) ≡ length old → ⊥ =
    λ same. omega (arith, c.args.into.now.ok.0, c.write_body.new.into.ok.0) in
    on_ok_weaker c.add-2.result
    (λ is. is ∙ ap (λ t. t ++ 10 ∷ []) c.in_ok-write_body.ensures.ok
    ∙ some_record old c.args.values.now (something_added old body differ))
    c.add-2.ensures.ok
