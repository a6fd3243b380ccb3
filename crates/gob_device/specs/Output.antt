-- What was written to a sink.
use Rattle.std.specs.Prelude.{ℕ, List, ◌++◌, option_map}
use Rattle.std.specs.declared.option.Option.{Option}
use Rattle.gob_device.specs.Causes.{one_more}

-- a sink that tells: its bytes, and how many writes there were, a failed one too
pub record Output : Type 0 where
  pub bytes : List ℕ
  pub writes : ℕ

-- one write more, by which these bytes came
abbrev pub with_write : List ℕ → Output → Output
with_write bytes o = record { bytes = o.bytes ++ bytes; writes = one_more o.writes }

-- the bytes alone
abbrev pub bytes_in : Option Output → Option (List ℕ)
bytes_in told = option_map (λ o. o.bytes) told
