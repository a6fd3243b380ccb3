-- What a command tells, and how that is delivered.
use Rattle.std.specs.Prelude.{◌≡◌, ◌≢◌, ◌⊎◌, ℕ, cond, ◌&&◌, List, [], ◌∷◌, take, option_map}
use Rattle.std.specs.declared.option.Option.{Option}
use Rattle.std.specs.declared.option.Option.TheVariants.{None, Some}
use Rattle.std.specs.Str.{bytes_eq}
use Rattle.gob_bytes.specs.Names.{is_job_name}
use Rattle.gob_device.specs.Causes.{Rose}
use Rattle.gob_device.specs.Output.{Output, with_write}
use Rattle.gob_texts.specs.Refusals as texts

-- a status and a text
abbrev pub Told : Type 0
Told = ℕ × List ℕ

abbrev pub refusal_told : texts.Refusal → Told
refusal_told r = (texts.refusal_status r, texts.refusal_text r)

-- this is told, or that no memory was left to tell it
abbrev pub Tells : Told → Told → Type 0
Tells due t = (t ≡ due) ⊎ (t ≡ refusal_told texts.memory)

-- a front of the text was written, by one write
abbrev pub WroteFront : Told → Option Output → Option Output → Type 0
WroteFront t old new = (n : ℕ) × (new ≡ option_map (with_write (take n t.1)) old)

-- the text was written whole, by one write, with its status; or the sink failed, a front was written, and 7 takes the
-- status's place, but for 8
abbrev pub Delivered : ℕ → Told → Option Output → Option Output → ℕ → ℕ → Type 0
Delivered status t old new before now =
    ((status ≡ t.0) × (new ≡ option_map (with_write t.1) old))
    ⊎ ((status ≡ 7) × (t.0 ≢ 8) × Rose before now × WroteFront t old new)
    ⊎ ((status ≡ 8) × (t.0 ≡ 8) × Rose before now × WroteFront t old new)

-- the job of a command line: its verb and the job's name
abbrev pub job_of_words : List ℕ → List (List ℕ) → Option (List ℕ)
job_of_words verb [] = None
job_of_words verb (word ∷ []) = None
job_of_words verb (word ∷ job ∷ []) = cond (bytes_eq word verb && is_job_name job) (Some job) None
job_of_words verb (word ∷ job ∷ more ∷ words) = None
