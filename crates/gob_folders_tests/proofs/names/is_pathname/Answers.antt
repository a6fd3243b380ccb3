use Rattle.std.proofs.Common.{◌≡◌, true, sym, ◌∙◌, subst}
use Rattle.std.proofs.lemmas.Bool.{eqb-false}
use Rattle.std.specs.List.{list_all}
use Rattle.gob_device.specs.Names.{is_name_byte}
use Rattle.gob_folders_tests.proofs.Pathnames.{name_of_bytes}
use Rattle.gob_folders_tests.proofs.names.is_pathname.Goals as goal

pub returns-then-not-is_empty : goal.returns-then-not-is_empty
returns-then-not-is_empty c = λ t. name_of_bytes c.args.name.now
    (eqb-false _ 0 (sym c.is_empty.ensures ∙ c.if-not-is_empty.true))
    (subst (λ bs. list_all is_name_byte bs ≡ true) c.as_bytes.ensures.value (sym c.has_no_nul.ensures ∙ t))
