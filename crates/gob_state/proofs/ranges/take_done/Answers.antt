use Rattle.std.proofs.Common.{ℕ, List, refl, sym, subst, Some, None, Option}
use Rattle.gob_ledger.specs.Marks.{Done}
use Rattle.gob_text.specs.Words.{GoesOnAtAll}
use Rattle.gob_state.specs.Ranges.{done_numbers, IsDoneLine}
use Rattle.gob_state.specs.Reads.{ReadsSpelling}
use Rattle.gob_state.specs.Versions.{version_of}
use Rattle.gob_state.specs.declared.version.Version.{Version}
use Rattle.gob_state.proofs.RangeLemmas.{first_renaming, second_renaming}
use Rattle.gob_state.proofs.Steps.{renamed}
use Rattle.gob_state.proofs.ranges.take_done.Goals as goal

abbrev At : (o n : List ℕ) (r : Option Done) → Version → Type 0
At o n r v = ReadsSpelling (done_numbers (version_of v)) (IsDoneLine (version_of v)) GoesOnAtAll o n r

pub returns-in_err-lo-in-First : goal.returns-in_err-lo-in-First
returns-in_err-lo-in-First c = subst (At _ _ _) (sym c.in-First.is)
    (renamed first_renaming _ _ None _ c.in_err-lo-in-First.ensures c.from_residual.ensures)

pub returns-in_ok-lo-in-First : goal.returns-in_ok-lo-in-First
returns-in_ok-lo-in-First c = subst (At _ _ _) (sym c.in-First.is)
    (renamed first_renaming _ _
    (Some (c.in_ok-lo-in-First.lo, c.in_ok-lo-in-First.hi)) _ c.in_ok-lo-in-First.ensures refl)

pub returns-in_err-lo-in-Second : goal.returns-in_err-lo-in-Second
returns-in_err-lo-in-Second c = subst (At _ _ _) (sym c.in-Second.is)
    (renamed second_renaming _ _ None _ c.in_err-lo-in-Second.ensures c.from_residual-in_err-lo-in-Second.ensures)

pub returns-in_ok-lo-in-Second : goal.returns-in_ok-lo-in-Second
returns-in_ok-lo-in-Second c = subst (At _ _ _) (sym c.in-Second.is)
    (renamed second_renaming _ _ (Some (
      c.in_ok-lo-in-Second.lo,
      c.in_ok-lo-in-Second.hi,
      c.in_ok-lo-in-Second.pipeline,
    )) _
    c.in_ok-lo-in-Second.ensures refl)
