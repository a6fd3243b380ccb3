-- What a reader meets who doesn't wait for recovery, while a map is settled: each published file is clean, and expected
-- of the state.
use Rattle.std.proofs.Common.{◌≡◌, ◌≢◌, ⊎_elim, ℕ, true, false, cond, List, refl, sym, ap, ◌∙◌, Some}
use Rattle.std.proofs.Common.{None, codes}
use Rattle.std.proofs.Common.{option_map}
use Rattle.std.specs.declared.option.Option.{Option}
use Rattle.gob_bytes.specs.Paths.{begins_with, is_published, sequence_name, under}
use Rattle.gob_bytes.proofs.Paths.{sequence_unpublished}
use Rattle.gob_device.specs.Disk.{EachOf, Files, contents_at, contents_of}
use Rattle.gob_device.specs.Supply.{Held}
use Rattle.gob_device.proofs.Trail.{each-map}
use Rattle.gob_ledger.specs.Expected.{IsExpected}
use Rattle.gob_ledger.specs.State.{State}
use Rattle.gob_recovery.specs.Settle.{Settles}
use Rattle.gob_history.specs.Runs.{Readable}
use Rattle.gob_history.specs.Sound.{IsDurable, SoundIn}
use Rattle.gob_history.proofs.Fronts.{published_unstaged}
use Rattle.gob_history.proofs.Steadied.{steadied}
use Rattle.gob_seq.specs.Maps.{SettlesByName}
use Rattle.gob_run.specs.Answers.{ReadersOfSettling}
use Rattle.gob_run.proofs.Entering.{settled_of}

-- a published file of a steady map is clean, and expected of its state
pub durable_readable : (job : List ℕ) (archive : Held) (o : Option State) (m : Files) → IsDurable job archive o m
    → Readable job archive o m
durable_readable job archive o m durable name f published here =
    let c = durable.clean.published name f published here in
    let e = expects o durable.sound (ap (option_map contents_of) here ∙ ap (λ g. Some (contents_of g)) c.1) in
    (c.0, c.1, e.0, e.1, e.2)
  where
    expects : {bytes : List ℕ} (p : Option State) → SoundIn job archive p m → contents_at m name ≡ Some bytes
        → (s : State) × (p ≡ Some s) × IsExpected job s archive name bytes
    expects {bytes} None sound at = absurd (let no : None ≡ Some bytes = sym (sound name published) ∙ at in cc)
    expects {bytes} (Some s) sound at = (s, refl, (sound.files name bytes published).0 at)

pub published_apart : (job name : List ℕ) → is_published job name ≡ true → name ≢ sequence_name job
published_apart job name published same =
    let no : true ≡ false = sym published ∙ (ap (is_published job) same ∙ sequence_unpublished job) in cc

-- each file of the map that is published is one of the first map's or of the settled one's
readable_by_name : (job : List ℕ) (archive : Held) (o : Option State) (m settled n : Files) → Settles job m settled
    → Readable job archive o m → Readable job archive o settled → SettlesByName job m n → Readable job archive o n
readable_by_name job archive o m settled n settles first last names name f published here =
    ⊎_elim (λ old. first name f published (sym old ∙ here)) (λ new. last name f published (sym new ∙ here))
    (names settled settles name (published_unstaged job name published) (published_apart job name published))

pub readers_of_settling : (job : List ℕ) (m : Files) (added : List Files) → EachOf (SettlesByName job m) added
    → ReadersOfSettling job m added
readers_of_settling job m added each = λ archive o all first.
    let s = settled_of job archive o m all in
    let last = durable_readable job archive o s.0 (steadied job archive o s.0 m all s.1).0 in
    each-map (SettlesByName job m) (Readable job archive o) added
    (λ n. readable_by_name job archive o m s.0 n s.1 first last) each
