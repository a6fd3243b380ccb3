-- A sequence that was found ready is ready.
use Rattle.std.proofs.Common.{◌≡◌, ◌↔◌, Bool, true, List, ℕ, sym, subst, refl, IfSome, IsTrue, Some, None}
use Rattle.std.specs.declared.option.Option.{Option}
use Rattle.gob_device.specs.Disk.{Disk}
use Rattle.gob_recovery.specs.Sequence.{CommitStep}
use Rattle.gob_seq.specs.Maps.{IsReady}

pub ready_now : (before now : Option Disk) (job : List ℕ) (steps : List CommitStep) (ready : Bool) → now ≡ before
    → IfSome before (λ d. IsTrue ready ↔ IsReady job steps d.files) → ready ≡ true
    → IfSome now (λ d. IsReady job steps d.files)
ready_now None now job steps ready same found is = subst (λ disk. IfSome disk (λ d. IsReady job steps d.files))
    (sym same) tt
ready_now (Some d) now job steps ready same found is =
    subst (λ disk. IfSome disk (λ d. IsReady job steps d.files)) (sym same) (found.0 is)
