use Rattle.std.proofs.Common.{sym, ◌∙◌, subst}
use Rattle.std.specs.Str.{IsUtf8}
use Rattle.gob_branch.proofs.Days.{place_text}
use Rattle.gob_branch.proofs.branch.Branch.push_made.Goals as goal

pub text_of-requires : goal.text_of-requires
text_of-requires c =
    subst IsUtf8 (sym (c.as_slice-3.ensures.value ∙ c.in_ok-write_place.ensures))
    (place_text c.self.inside.day c.args.row.now)
