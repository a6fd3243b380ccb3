-- The look-ups of the code.
use Rattle.std.specs.Prelude.{ℕ, Bool, ◌||◌, nat_eq, map}
use Rattle.gob_bytes.specs.Escapes.{is_letter, is_digit}
use Rattle.gob_bytes.specs.Tables.{at_name}
use Rattle.gob_jobs.specs.Pipelines.{Setting, last_value}
use Rattle.gob_jobs.specs.Reading.{LookUp}
use Rattle.gob_job.specs.declared.values.Setting.{Setting as SettingHeld}
use Rattle.gob_job.specs.declared.values.Values.{Values}
use Rattle.gob_job.specs.declared.values.Values.TheVariants as values

abbrev pub setting_from : SettingHeld → Setting
setting_from s = (s.key, s.value)

abbrev pub look_of : Values → LookUp
look_of (values.Props props) = at_name props.now
look_of (values.Settings settings) = last_value (map setting_from settings.now)

-- a byte of a key of a pipeline text
abbrev pub is_look_up_byte : ℕ → Bool
is_look_up_byte c = is_letter c || is_digit c || nat_eq c 46
