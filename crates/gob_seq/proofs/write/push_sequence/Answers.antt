use Rattle.std.proofs.Common.{map, sym}
use Rattle.std.proofs.lemmas.List.{length-map}
use Rattle.gob_seq.specs.Steps.{commit_step_of}
use Rattle.gob_seq.proofs.Rows.{text_written}
use Rattle.gob_seq.proofs.write.push_sequence.Goals as goal

pub returns : goal.returns
returns c =
    text_written _ _ _ _ _ _ (map commit_step_of c.args.steps.now) _
    c.in_ok-extend_from_slice.ensures.items c.in_ok-push_steps.ensures c.in_ok-extend_from_slice-2.ensures.items
    c.in_ok-push_u64.ensures.ok c.in_ok-extend_from_slice-3.ensures.items
    (sym (length-map c.args.steps.now commit_step_of))
