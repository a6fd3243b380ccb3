-- Images of a map settle to images of what the map settles to.
use Rattle.std.proofs.Common.{◌≡◌, inl, inr, ℕ, Bool, true, false, cond, ◌||◌, ◌&&◌, List, [], ◌∷◌, refl, sym, ap}
use Rattle.std.proofs.Common.{subst, ◌∙◌, is_some, Some, None}
use Rattle.std.specs.declared.option.Option.{Option}
use Rattle.std.specs.List.{list_all}
use Rattle.std.specs.Str.{bytes_eq}
use Rattle.gob_bytes.specs.Paths.{begins_with, staging, sequence_name}
use Rattle.gob_device.specs.Disk.{Files, File, clean, dirty, contents_of, put, after_rename, after_remove, Image}
use Rattle.gob_device.specs.Disk.{FileImage}
use Rattle.gob_recovery.specs.Sequence.{CommitStep, move, remove, Reads}
use Rattle.gob_recovery.specs.Settle.{do_step, do_steps, moved_where, without_staging, can_do, after_finish, Settles}
use Rattle.gob_recovery.specs.Settle.{SettlesAs}
use Rattle.gob_recovery.specs.Laws.{ImagesSettleAlike}

pub image_at : (m i : Files) → Image m i → (name : List ℕ) → FileImage (m name) (i name)
unfolding Image
image_at m i image name = image name

pub alike : (x y : Option File) → FileImage x y → is_some x ≡ is_some y
alike None None e = refl
alike None (Some f) e = absurd e
alike (Some (clean b)) None e = absurd e
alike (Some (dirty k l)) None e = absurd e
alike (Some f) (Some g) e = refl

pub either : (b : Bool) (x y u v : Option File) → FileImage x y → FileImage u v → FileImage (cond b x u) (cond b y v)
either true x y u v e f = e
either false x y u v e f = f

pub image_put : (name : List ℕ) (m i : Files) (x y : Option File) → Image m i → FileImage x y
    → Image (put m name x) (put i name y)
unfolding Image
image_put name m i x y image e = λ other. either (bytes_eq other name) x y (m other) (i other) e (image other)

pub image_removed : (name : List ℕ) (m i : Files) → Image m i → Image (after_remove name m) (after_remove name i)
unfolding after_remove
image_removed name m i image = image_put name m i None None image tt

image_renamed : (source target : List ℕ) (m i : Files) → Image m i
    → Image (after_rename source target m) (after_rename source target i)
unfolding after_rename
image_renamed source target m i image = image_put target (put m source None) (put i source None) (m source) (i source)
    (image_put source m i None None image tt) (image_at m i image source)

image_moved : (source target : List ℕ) (b : Bool) (m i : Files) → Image m i
    → Image (moved_where source target b m) (moved_where source target b i)
image_moved source target true m i image = image_renamed source target m i image
image_moved source target false m i image = image

pub image_step : (s : CommitStep) (m i : Files) → Image m i → Image (do_step s m) (do_step s i)
image_step (move source target) m i image =
    subst (λ b. Image (do_step (move source target) m) (moved_where source target b i))
    (alike _ _ (image_at m i image source)) (image_moved source target (is_some (m source)) m i image)
image_step (remove name) m i image = image_removed name m i image

pub image_steps : (steps : List CommitStep) (m i : Files) → Image m i → Image (do_steps steps m) (do_steps steps i)
unfolding do_steps
image_steps [] m i image = image
image_steps (s ∷ ss) m i image = image_steps ss (do_step s m) (do_step s i) (image_step s m i image)

pub image_cleaned : (job : List ℕ) (m i : Files) → Image m i → Image (without_staging job m) (without_staging job i)
unfolding Image without_staging
image_cleaned job m i image = λ name. either (begins_with (staging job) name) None None (m name) (i name) tt
    (image name)

can_alike : (m i : Files) → Image m i → (s : CommitStep) → can_do m s ≡ can_do i s
can_alike m i image (move source target) = λ j. alike _ _ (image_at m i image source) j || alike _ _
    (image_at m i image target) j
can_alike m i image (remove name) = refl

pub all_alike : (m i : Files) → Image m i → (steps : List CommitStep)
    → list_all (can_do m) steps ≡ list_all (can_do i) steps
all_alike m i image [] = refl
all_alike m i image (s ∷ ss) = λ j. can_alike m i image s j && all_alike m i image ss j

pub none_there : (x : Option File) → FileImage None x → x ≡ None
none_there None e = refl
none_there (Some f) e = absurd e

pub clean_there : (bytes : List ℕ) (x : Option File) → FileImage (Some (clean bytes)) x → x ≡ Some (clean bytes)
clean_there bytes None e = absurd e
clean_there bytes (Some (clean left)) e = ap (λ b. Some (clean b)) e
clean_there bytes (Some (dirty k l)) e = absurd e

pub images_alike : ImagesSettleAlike
unfolding SettlesAs
images_alike job m settled quiet settles = cases settles
  where
    cases : Settles job m settled → SettlesAs job settled m
    cases (inl none) = λ i image. (
      without_staging job i,
      inl (
        none_there _ (subst (λ (o : Option File). FileImage o (i (sequence_name job))) none.0
            (image_at m i image (sequence_name job))),
        refl,
      ),
      subst (λ n. Image n (without_staging job i)) (sym none.1) (image_cleaned job m i image),
    )
    cases (inr open_) = λ i image.
        let steps = open_.0 in
        let o = open_.1 in
        let q = quiet o.file o.here in
        let here : m (sequence_name job) ≡ Some (clean q.0) = o.here ∙ ap (λ (f : File). Some f) q.1 in
        let there : i (sequence_name job) ≡ Some (clean q.0) =
        clean_there q.0 _ (subst (λ (x : Option File). FileImage x (i (sequence_name job))) here
        (image_at m i image (sequence_name job))) in (
          after_finish job steps i,
          inr (
            steps,
            record {
              file = clean q.0;
              here = there;
              reads =
                  subst (λ (f : File). Reads job (contents_of f) steps) q.1 o.reads;
            },
            sym (all_alike m i image steps)
                ∙ open_.2,
            refl,
          ),
          subst (λ n. Image n (after_finish job steps i)) (sym open_.3)
              (image_cleaned job _ _ (image_removed (sequence_name job) _ _ (image_steps steps m i image))),
        )
