-- A steady map stands for its state in every image of what settles to it.
use Rattle.std.proofs.Common.{◌≡◌, ◌↔◌, inl, ℕ, true, false, cond, List, refl, sym, ap, subst, ◌∙◌, Some, None}
use Rattle.std.proofs.Common.{option_map}
use Rattle.std.specs.declared.option.Option.{Option}
use Rattle.gob_bytes.specs.Paths.{begins_with, staging, sequence_name, is_published, keeps_state}
use Rattle.gob_device.specs.Disk.{Files, File, clean, dirty, contents_of, contents_at, FileImage}
use Rattle.gob_device.specs.Supply.{Held}
use Rattle.gob_ledger.specs.State.{State}
use Rattle.gob_ledger.specs.Expected.{IsExpected}
use Rattle.gob_recovery.specs.Settle.{without_staging, SettlesAs}
use Rattle.gob_recovery.proofs.Images.{image_at, images_alike}
use Rattle.gob_history.proofs.Kept.{keeps_alike}
use Rattle.gob_history.specs.Sound.{Stores, SoundIn, AllRecoverTo, DurableRecovers}

abbrev pub Quiet : Option File → Type 0
Quiet x = (f : File) → x ≡ Some f → (bytes : List ℕ) × (f ≡ clean bytes)

clean_reads : (f : File) (y : Option File) → ((bytes : List ℕ) × (f ≡ clean bytes)) → FileImage (Some f) y
    → option_map contents_of y ≡ Some (contents_of f)
clean_reads f None q e = absurd (subst (λ g. FileImage (Some g) None) q.1 e)
clean_reads f (Some (clean left)) q e = ap (λ b. Some b) (subst (λ g. FileImage (Some g) (Some (clean left))) q.1 e)
    ∙ sym (ap (λ g. Some (contents_of g)) q.1)
clean_reads f (Some (dirty k l)) q e = absurd (subst (λ g. FileImage (Some g) (Some (dirty k l))) q.1 e)

-- an image of a clean file reads as it does
pub reads_alike : (x y : Option File) → Quiet x → FileImage x y → option_map contents_of y ≡ option_map contents_of x
reads_alike None None q e = refl
reads_alike None (Some g) q e = absurd e
reads_alike (Some f) y q e = clean_reads f y (q f refl) e

pub stores_alike : (job : List ℕ) (o : Option State) (m n : Files)
    → ((name : List ℕ) → keeps_state job name ≡ true → contents_at n name ≡ contents_at m name) → Stores job m o
    → Stores job n o
stores_alike job o m n same s = (s.0, keeps_alike job m n s.0 same s.1, s.2)

pub sound_alike : (job : List ℕ) (archive : Held) (o : Option State) (m n : Files)
    → ((name : List ℕ) → is_published job name ≡ true → contents_at n name ≡ contents_at m name)
    → SoundIn job archive o m → SoundIn job archive o n
sound_alike job archive None m n same s = λ name p. same name p ∙ s name p
sound_alike job archive (Some t) m n same s = record {
  tiled = s.tiled;
  plans = s.plans;
  within = s.within;
  totals = s.totals;
  files = λ name content p. subst (λ (c : Option (List ℕ)). (c ≡ Some content) ↔ IsExpected job t archive name content)
      (sym (same name p)) (s.files name content p);
}

pub standing : DurableRecovers
unfolding AllRecoverTo SettlesAs
standing job archive o settled m steady alike = λ i image.
    let x = alike i image in
    let same : (name : List ℕ) → is_published job name ≡ true → contents_at x.0 name ≡ contents_at settled name =
    λ name p. reads_alike (settled name) (x.0 name) (λ f e. steady.clean.published name f p e)
    (image_at settled x.0 x.2 name) in (
      x.0,
      x.1,
      stores_alike job o settled x.0 (λ name p. reads_alike (settled name) (x.0 name)
          (λ f e. steady.clean.state name f p e) (image_at settled x.0 x.2 name)) steady.stores,
      sound_alike job archive o settled x.0 same steady.sound,
    )

pub kept_all : (m : Files) (job name : List ℕ) → (begins_with (staging job) name ≡ true → m name ≡ None)
    → m name ≡ without_staging job m name
unfolding without_staging
kept_all m job name none = elim (begins_with (staging job) name) as
    (λ b. begins_with (staging job) name ≡ b → m name ≡ cond b None (m name)) [
      | true ↦ λ e. none e
      | false ↦ λ e. refl
    ] refl

-- a map with no sequence and no staging settles to itself
pub settles_itself : (job : List ℕ) (m : Files) → m (sequence_name job) ≡ None
    → ((name : List ℕ) → begins_with (staging job) name ≡ true → m name ≡ None) → SettlesAs job m m
settles_itself job m none clear = images_alike job m m (λ f e. absurd (let no : None ≡ Some f = sym none ∙ e in cc))
    (inl (none, λ i name. kept_all m job name (clear name) i))
