-- The devices of a run, as it found them and as it left them.
use Rattle.std.specs.Prelude.{◌≡◌, ℕ, ◌≤◌}
use Rattle.std.specs.declared.option.Option.{Option}
use Rattle.std.specs.declared.option.Option.TheVariants.{Some}
use Rattle.gob_device.specs.Disk.{Disk}
use Rattle.gob_device.specs.Supply.{Supply}

-- what a source and a volume tell, and their counts of faults
pub record World : Type 0 where
  pub supply : Option Supply
  pub source_faults : ℕ
  pub plan_faults : ℕ
  pub disk : Option Disk
  pub volume_faults : ℕ

-- no count of faults has fallen
pub record WorldGoesOn (old new : World) : Type 0 where
  pub source : old.source_faults ≤ new.source_faults
  pub planned : old.plan_faults ≤ new.plan_faults
  pub volume : old.volume_faults ≤ new.volume_faults

-- where the volume tells, it tells afterwards too, and this holds of what it tells
abbrev pub WhereFiled : (Disk → Disk → Type 0) → World → World → Type 0
WhereFiled P old new = (d : Disk) → old.disk ≡ Some d → (e : Disk) × (new.disk ≡ Some e) × P d e

-- the same of the source
abbrev pub WhereSupplied : (Supply → Supply → Type 0) → World → World → Type 0
WhereSupplied P old new = (s : Supply) → old.supply ≡ Some s → (t : Supply) × (new.supply ≡ Some t) × P s t

-- where both devices tell, they tell afterwards too, and this holds of what they tell
abbrev pub WhereTold : (Disk → Supply → Disk → Supply → Type 0) → World → World → Type 0
WhereTold P old new = (d : Disk) (s : Supply) → old.disk ≡ Some d → old.supply ≡ Some s
    → (e : Disk) × (t : Supply) × (new.disk ≡ Some e) × (new.supply ≡ Some t) × P d s e t
