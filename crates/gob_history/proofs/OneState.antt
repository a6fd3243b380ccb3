-- A map recovers to one state.
use Rattle.std.proofs.Common.{◌≡◌, List, ℕ, sym, ap, subst, ◌∙◌, option_map}
use Rattle.std.specs.declared.option.Option.{Option}
use Rattle.gob_device.specs.Disk.{Files}
use Rattle.gob_ledger.specs.State.{State}
use Rattle.gob_ledger.specs.Delta.{state_of}
use Rattle.gob_ledger.proofs.OneState.{keeps_one}
use Rattle.gob_recovery.proofs.Spelled.{to_one}
use Rattle.gob_history.specs.Sound.{AllRecoverTo, RecoversToOne, Stores}
use Rattle.gob_history.proofs.Steadied.{image_read, as_read}

stored_once : (job : List ℕ) (m : Files) (o p : Option State) → Stores job m o → Stores job m p → o ≡ p
stored_once job m o p (k, keeps, is) (l, keeps', is') =
    sym is ∙ ap (option_map state_of) (keeps_one job m k l keeps keeps') ∙ is'

pub recovers_to_one : RecoversToOne
unfolding AllRecoverTo
recovers_to_one job a b o p m x y =
    let image : Files = λ name. option_map as_read (m name) in
    let left = x image (image_read m) in
    let right = y image (image_read m) in
    let same : left.0 ≡ right.0 = to_one job image left.0 right.0 left.1 right.1 in
    stored_once job right.0 o p (subst (λ (n : Files). Stores job n o) same left.2) right.2
