use Rattle.std.proofs.Common.{◌≡◌, refl, None, Some}
use Rattle.gob_stage.proofs.laws.new_holds_nothing.Goals as goal

pub returns : goal.returns
returns c job unit attempt m = record {
  begun = refl;
  files = λ target bytes is.
      absurd (let no : None ≡ Some bytes = is in cc);
}
