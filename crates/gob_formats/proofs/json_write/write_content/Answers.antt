use Rattle.std.proofs.Common.{◌≡◌, false}
use Rattle.gob_formats.specs.Escapes.{needs_escape}
use Rattle.gob_formats.proofs.Spelled.{plain_escape}
use Rattle.gob_formats.proofs.json_write.write_content.Goals as goal

pub returns-then-not-needs_escape-clause-ok : goal.returns-then-not-needs_escape-clause-ok
returns-then-not-needs_escape-clause-ok c =
    let none : needs_escape c.args.text.now ≡ false = cc in
    rw (plain_escape c.args.text.now none) c.add.ensures.ok
