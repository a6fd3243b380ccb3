-- The devices of a call that leaves them alone.
use Rattle.std.specs.Prelude.{◌≡◌}
use Rattle.gob_run.specs.World.{WorldGoesOn, World}

-- no call was made of the source
pub record NoSourceCall (old new : World) : Type 0 where
  pub supply : new.supply ≡ old.supply
  pub faults : new.source_faults ≡ old.source_faults
  pub planned : new.plan_faults ≡ old.plan_faults

-- nothing was changed, and the source wasn't asked
pub record StaysPut (old new : World) : Type 0 where
  pub disk : new.disk ≡ old.disk
  pub source : NoSourceCall old new
  pub goes_on : WorldGoesOn old new
