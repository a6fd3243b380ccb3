-- What stands for a state settles to a steady map: each way to read its files settles, and only clean ones leave no
-- choice.
use Rattle.std.proofs.Common.{◌≡◌, inl, inr, ℕ, Bool, true, false, cond, ◌||◌, ◌&&◌, List, [], ◌∷◌, ◌++◌, length}
use Rattle.std.proofs.Common.{option_map, is_some, refl, sym, ap, subst, ◌∙◌, Some, None, append_assoc, codes, arith}
use Rattle.std.proofs.Common.{length-append}
use Rattle.std.specs.declared.option.Option.{Option}
use Rattle.std.specs.List.{list_all, flat_map}
use Rattle.std.specs.Str.{bytes_eq}
use Rattle.std.specs.Fmt.{decimal}
use Rattle.gob_bytes.specs.Words.{words}
use Rattle.gob_bytes.specs.Paths.{begins_with, staging, sequence_name, keeps_state, is_published}
use Rattle.gob_device.specs.Disk.{Files, File, clean, dirty, contents_of, contents_at, put, after_rename, after_remove}
use Rattle.gob_device.specs.Disk.{Image, FileImage}
use Rattle.gob_device.specs.Supply.{Held}
use Rattle.gob_ledger.specs.State.{State}
use Rattle.gob_recovery.specs.Sequence.{CommitStep, move, remove, sequence_text, step_line}
use Rattle.gob_recovery.specs.Settle.{moved_where, do_step, do_steps, without_staging, can_do, Settles}
use Rattle.gob_recovery.specs.Laws.{NoTornSequence}
use Rattle.gob_recovery.proofs.Images.{images_alike}
use Rattle.gob_recovery.proofs.Spelled.{to_one}
use Rattle.gob_history.specs.Sound.{Stores, SoundIn, AllRecoverTo, RecoveringIsDurable}
use Rattle.gob_history.proofs.Kept.{stored_ends}
use Rattle.gob_history.proofs.Stands.{stores_alike, sound_alike}

-- the same change of every file
abbrev pub over : (File → File) → Files → Files
over h m = λ name. option_map h (m name)

over_cond : (h : File → File) (b : Bool) (x y : Option File) → option_map h (cond b x y) ≡ cond b (option_map h x)
    (option_map h y)
over_cond h true x y = refl
over_cond h false x y = refl

some_over : (h : File → File) (o : Option File) → is_some (option_map h o) ≡ is_some o
some_over h None = refl
some_over h (Some f) = refl

over_put : (h : File → File) (name : List ℕ) (m : Files) (o : Option File)
    → over h (put m name o) ≡ put (over h m) name (option_map h o)
over_put h name m o = λ i q. over_cond h (bytes_eq q name) o (m q) i

over_removed : (h : File → File) (name : List ℕ) (m : Files) → over h (after_remove name m) ≡ after_remove name
    (over h m)
unfolding after_remove
over_removed h name m = over_put h name m None

over_renamed : (h : File → File) (source target : List ℕ) (m : Files)
    → over h (after_rename source target m) ≡ after_rename source target (over h m)
unfolding after_rename
over_renamed h source target m = over_put h target (put m source None) (m source)
    ∙ ap (λ n. put n target (option_map h (m source))) (over_put h source m None)

over_moved : (h : File → File) (source target : List ℕ) (b : Bool) (m : Files)
    → over h (moved_where source target b m) ≡ moved_where source target b (over h m)
over_moved h source target true m = over_renamed h source target m
over_moved h source target false m = refl

over_step : (h : File → File) (s : CommitStep) (m : Files) → over h (do_step s m) ≡ do_step s (over h m)
over_step h (move source target) m = over_moved h source target (is_some (m source)) m
    ∙ ap (λ b. moved_where source target b (over h m)) (sym (some_over h (m source)))
over_step h (remove name) m = over_removed h name m

over_steps : (h : File → File) (ss : List CommitStep) (m : Files) → over h (do_steps ss m) ≡ do_steps ss (over h m)
unfolding do_steps
over_steps h [] m = refl
over_steps h (s ∷ ss) m = over_steps h ss (do_step s m) ∙ ap (do_steps ss) (over_step h s m)

over_cleaned : (h : File → File) (job : List ℕ) (m : Files) → over h (without_staging job m) ≡ without_staging job
    (over h m)
unfolding without_staging
over_cleaned h job m = λ i name. over_cond h (begins_with (staging job) name) None (m name) i

can_over : (h : File → File) (m : Files) (s : CommitStep) → can_do (over h m) s ≡ can_do m s
can_over h m (move source target) = λ i. some_over h (m source) i || some_over h (m target) i
can_over h m (remove name) = refl

all_over : (h : File → File) (m : Files) (ss : List CommitStep)
    → list_all (can_do (over h m)) ss ≡ list_all (can_do m) ss
all_over h m [] = refl
all_over h m (s ∷ ss) = λ i. can_over h m s i && all_over h m ss i

-- settling goes over a change that keeps the open sequence
settles_over : (h : File → File) → ((bytes : List ℕ) → h (clean bytes) ≡ clean bytes)
    → (job : List ℕ) (m settled : Files) → NoTornSequence job m → Settles job m settled
    → Settles job (over h m) (over h settled)
settles_over h keeps job m settled quiet settles = cases settles
  where
    cases : Settles job m settled → Settles job (over h m) (over h settled)
    cases (inl x) = inl (ap (option_map h) x.0, ap (over h) x.1 ∙ over_cleaned h job m)
    cases (inr x) =
        let q = quiet x.1.file x.1.here in
        let same : h x.1.file ≡ x.1.file = ap h q.1 ∙ (keeps q.0 ∙ sym q.1) in
        inr (
          x.0,
          record {
            file = x.1.file;
            here = ap (option_map h) x.1.here ∙ ap (λ (f : File). Some f) same;
            reads =
                x.1.reads;
          },
          all_over h m x.0 ∙ x.2,
          ap (over h) x.3 ∙ (over_cleaned h job (after_remove (sequence_name job) (do_steps x.0 m))
              ∙ ap (without_staging job) (over_removed h (sequence_name job) (do_steps x.0 m)
              ∙ ap (after_remove (sequence_name job)) (over_steps h x.0 m))),
        )

-- two ways to read what a crash leaves: as it stands, or with one byte more where it may be
abbrev pub as_read : File → File
as_read f = clean (contents_of f)

abbrev pub one_more : File → File
one_more (clean bytes) = clean bytes
one_more (dirty kept loose) = clean (kept ++ (loose ++ 0 ∷ []))

pub image_read : (m : Files) → Image m (over as_read m)
unfolding Image
image_read m = λ name. one (m name)
  where
    one : (o : Option File) → FileImage o (option_map as_read o)
    one None = tt
    one (Some (clean bytes)) = refl
    one (Some (dirty kept loose)) = (loose, refl)

image_more : (m : Files) → Image m (over one_more m)
unfolding Image
image_more m = λ name. one (m name)
  where
    one : (o : Option File) → FileImage o (option_map one_more o)
    one None = tt
    one (Some (clean bytes)) = refl
    one (Some (dirty kept loose)) = (loose ++ 0 ∷ [], refl)

read_over : (o : Option File) → option_map contents_of (option_map as_read o) ≡ option_map contents_of o
read_over None = refl
read_over (Some f) = refl

-- the last byte of a sequence's text ends a line
last_of_two : (xs ys : List ℕ) (x y : ℕ) → xs ++ x ∷ [] ≡ ys ++ y ∷ [] → x ≡ y
last_of_two [] [] x y e = cc
last_of_two [] (b ∷ []) x y e = absurd (let no : [] ≡ y ∷ [] = cc in cc)
last_of_two [] (b ∷ c ∷ ys) x y e = absurd (let no : [] ≡ c ∷ (ys ++ y ∷ []) = cc in cc)
last_of_two (a ∷ []) [] x y e = absurd (let no : x ∷ [] ≡ [] = cc in cc)
last_of_two (a ∷ b ∷ xs) [] x y e = absurd (let no : b ∷ (xs ++ x ∷ []) ≡ [] = cc in cc)
last_of_two (a ∷ xs) (b ∷ ys) x y e = last_of_two xs ys x y (let tail : xs ++ x ∷ [] ≡ ys ++ y ∷ [] = cc in tail)

ends_line : (s : List CommitStep) → (front : List ℕ) × (sequence_text s ≡ front ++ 10 ∷ [])
unfolding sequence_text
ends_line s =
    let front = words (codes "gobblin-sequence") (codes "1" ∷ []) ++ flat_map step_line s in
    let end = codes "end " ++ decimal (length s) in
    (front ++ end, sym (append_assoc front end (10 ∷ [])))

torn_reads_none : (kept loose : List ℕ) (s : List CommitStep) → kept ++ (loose ++ 0 ∷ []) ≡ sequence_text s → ⊥
torn_reads_none kept loose s e =
    let l = ends_line s in
    let same : 0 ≡ 10 = last_of_two (kept ++ loose) l.0 0 10 (append_assoc kept loose (0 ∷ []) ∙ (e ∙ l.1)) in
    omega (arith, same)

longer : (kept loose : List ℕ) → kept ++ (loose ++ 0 ∷ []) ≡ kept ++ loose → ⊥
longer kept loose e =
    let l : length (kept ++ (loose ++ 0 ∷ [])) ≡ length (kept ++ loose) = ap length e in
    omega (arith, l, length-append kept (loose ++ 0 ∷ []), length-append kept loose, length-append loose (0 ∷ []))

pub quiet_sequence : (job : List ℕ) (archive : Held) (o : Option State) (m : Files) → AllRecoverTo job archive o m
    → NoTornSequence job m
unfolding AllRecoverTo
quiet_sequence job archive o m all (clean bytes) here = (bytes, refl)
quiet_sequence job archive o m all (dirty kept loose) here =
    let there : over one_more m (sequence_name job) ≡ Some (clean (kept ++ (loose ++ 0 ∷ []))) =
    ap (option_map one_more) here in
    absurd (never ((all (over one_more m) (image_more m)).1) there)
  where
    never : {n : Files} → Settles job (over one_more m) n → over one_more m (sequence_name job) ≡ Some
        (clean (kept ++ (loose ++ 0 ∷ []))) → ⊥
    never (inl x) there = let no : None ≡ Some (clean (kept ++ (loose ++ 0 ∷ []))) = sym x.0 ∙ there in cc
    never (inr x) there =
        let file : x.1.file ≡ clean (kept ++ (loose ++ 0 ∷ [])) =
        let both : Some x.1.file ≡ Some (clean (kept ++ (loose ++ 0 ∷ []))) = sym x.1.here ∙ there in cc in
        torn_reads_none kept loose x.0 (sym (ap contents_of file) ∙ x.1.reads.spelled)

-- an image of what stands for a state, settled
standing_over : (h : File → File) → ((bytes : List ℕ) → h (clean bytes) ≡ clean bytes)
    → (job : List ℕ) (archive : Held) (o : Option State) (m settled : Files) → NoTornSequence job m
    → Settles job m settled → Image m (over h m) → AllRecoverTo job archive o m → Stores job (over h settled) o
    × SoundIn job archive o (over h settled)
unfolding AllRecoverTo
standing_over h keeps job archive o m settled quiet settles image all =
    let x = all (over h m) image in
    let same : x.0 ≡ over h settled = to_one job (over h m) x.0 (over h settled) x.1
    (settles_over h keeps job m settled quiet settles) in
    (subst (λ n. Stores job n o) same x.2, subst (SoundIn job archive o) same x.3)

-- a file that tells the state has no loose bytes: with one byte more it wouldn't end a line
state_quiet : (job : List ℕ) (o : Option State) (n : Files) → Stores job (over one_more n) o
    → (name : List ℕ) (f : File) → keeps_state job name ≡ true → n name ≡ Some f → (bytes : List ℕ) × (f ≡ clean bytes)
state_quiet job o n stores name (clean bytes) p e = (bytes, refl)
state_quiet job o n stores name (dirty kept loose) p e =
    let there : contents_at (over one_more n) name ≡ Some (kept ++ (loose ++ 0 ∷ [])) =
    ap (λ x. option_map contents_of (option_map one_more x)) e in
    let l = stored_ends job (over one_more n) o name (kept ++ (loose ++ 0 ∷ [])) stores p there in
    absurd (let same : 0 ≡ 10 = last_of_two (kept ++ loose) l.0 0 10 (append_assoc kept loose (0 ∷ []) ∙ l.1) in
    omega (arith, same))

published_once : (job : List ℕ) (archive : Held) (o : Option State) (n k : Files) (name : List ℕ)
    → is_published job name ≡ true → SoundIn job archive o n → SoundIn job archive o k
    → contents_at n name ≡ contents_at k name
published_once job archive None n k name p a b = a name p ∙ sym (b name p)
published_once job archive (Some s) n k name p a b = cases (contents_at n name) refl
  where
    cases : (c : Option (List ℕ)) → contents_at n name ≡ c → contents_at n name ≡ contents_at k name
    cases (Some content) e = e ∙ sym ((b.files name content p).1 ((a.files name content p).0 e))
    cases None e = others (contents_at k name) refl
      where
        others : (d : Option (List ℕ)) → contents_at k name ≡ d → contents_at n name ≡ contents_at k name
        others None f = e ∙ sym f
        others (Some content) f = absurd (let no : None ≡ Some content = sym e
            ∙ (a.files name content p).1 ((b.files name content p).0 f) in cc)

clean_where : (o : Option File) → option_map contents_of (option_map as_read o) ≡ option_map contents_of
    (option_map one_more o) → (f : File) → o ≡ Some f → (bytes : List ℕ) × (f ≡ clean bytes)
clean_where None same f e = absurd (let no : None ≡ Some f = e in cc)
clean_where (Some (clean bytes)) same f e = (bytes, let h : clean bytes ≡ f = cc in sym h)
clean_where (Some (dirty kept loose)) same f e = absurd (longer kept loose
    (let h : kept ++ loose ≡ kept ++ (loose ++ 0 ∷ []) = cc in sym h))

pub steadied : RecoveringIsDurable
steadied job archive o settled m all settles =
    let quiet = quiet_sequence job archive o m all in
    let read = standing_over as_read (λ bytes. refl) job archive o m settled quiet settles (image_read m) all in
    let more = standing_over one_more (λ bytes. refl) job archive o m settled quiet settles (image_more m) all in (
      record {
        stores = stores_alike job o (over as_read settled) settled (λ name p. sym (read_over (settled name))) read.0;
        sound = sound_alike job archive o (over as_read settled) settled (λ name p. sym (read_over (settled name)))
            read.1;
        clean = record {
          state = λ name f p e. state_quiet job o settled more.0 name f p e;
          published = λ name f p e. clean_where (settled name)
              (published_once job archive o (over as_read settled) (over one_more settled) name p read.1 more.1) f e;
        };
      },
      images_alike job m settled quiet settles,
    )
