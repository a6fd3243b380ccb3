-- What a planned failure and a crash leave.
use Rattle.std.proofs.Common.{◌≡◌, ℕ, List, cond, Some, None, Option, option_map, inl, inr, refl, sym, ap, subst, ◌∙◌}
use Rattle.gob_bytes.proofs.Tables.{name_itself, two_names}
use Rattle.gob_device.specs.Disk.{Disk, File, FileImage, Files, FailedChange, Image, Torn, after_change, clean, dirty}
use Rattle.gob_device.specs.Disk.{kept_bytes}
use Rattle.gob_volume.specs.Crashes.{after_crash, after_tear, image_of, torn_file}

torn_keeps : (found : Option File) → option_map kept_bytes (option_map torn_file found) ≡ option_map kept_bytes found
torn_keeps None = refl
torn_keeps (Some (clean bytes)) = refl
torn_keeps (Some (dirty kept loose)) = refl

after_tear-Torn : (name : List ℕ) (step : Files → Files) (m : Files) → Torn name step m (after_tear name m)
unfolding after_tear
after_tear-Torn name step m = record {
  others = λ other apart. ap (λ b. cond b (option_map torn_file (m name)) (m other)) (two_names other name apart);
  kept = inl (ap (λ b. option_map kept_bytes (cond b (option_map torn_file (m name)) (m name))) (name_itself name)
      ∙ torn_keeps (m name));
}

-- a failed append or sync that left its file dirty
pub torn_failed : {name : List ℕ} {step : Files → Files} {before now : Disk}
    → now ≡ after_change (after_tear name) before → FailedChange (Torn name step) before now
torn_failed {name} {step} {before} is = subst (FailedChange (Torn name step) before) (sym is) (record {
  files = after_tear-Torn name step before.files;
  trail = inl refl;
})

settled_image : (tail : List ℕ) (found : Option File) → FileImage found (option_map (image_of tail) found)
settled_image tail None = tt
settled_image tail (Some (clean bytes)) = refl
settled_image tail (Some (dirty kept loose)) = (tail, refl)

pub crashed_image : (tail : List ℕ) (m left : Files) → left ≡ after_crash tail m → Image m left
unfolding Image after_crash
crashed_image tail m left is = λ name. let back : after_crash tail m ≡ left = sym is in
    subst (FileImage (m name)) (λ i. back i name) (settled_image tail (m name))

-- and one that changed nothing
pub still_failed : {name : List ℕ} {step : Files → Files} {before now : Disk} → now ≡ before
    → FailedChange (Torn name step) before now
still_failed {name} {step} {before} is = subst (FailedChange (Torn name step) before) (sym is) (record {
  files = record { others = λ other apart. refl; kept = inl refl };
  trail = inr (refl, refl);
})
