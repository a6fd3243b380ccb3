-- The pipelines after a change.
use Rattle.std.proofs.Common.{◌≡◌, ◌⊎◌, inl, inr, ⊎_elim, ℕ, ◌+◌, ◌<◌, ◌≤◌, ◌^◌, Bool, true, false, ◌||◌, List, [], ◌∷◌}
use Rattle.std.proofs.Common.{◌++◌, length, drop, refl, sym, ap, subst, ◌∙◌, Some, None, append_assoc, append-nil}
use Rattle.std.proofs.Common.{codes, arith}
use Rattle.std.specs.declared.option.Option.{Option}
use Rattle.std.specs.List.{AllByRecursion, IsDistinct, flat_map, list_any}
use Rattle.std.specs.Str.{bytes_eq}
use Rattle.std.proofs.lemmas.Bool.{true≢false}
use Rattle.std.proofs.lemmas.Option.{same_Some}
use Rattle.std.proofs.Math.Seq.{drop-append_seam}
use Rattle.gob_bytes.proofs.Tables.{name_itself, same_name, two_names}
use Rattle.gob_bytes.specs.Words.{numbered_line}
use Rattle.gob_ledger.specs.Spelling.{IsKeptPipeline, version_1, version_2, pipeline_part}
use Rattle.gob_ledger.specs.Delta.{OneMore}
use Rattle.gob_state.proofs.SettingLemmas.{each_push}
use Rattle.gob_state.proofs.Steps.{no_more}
use Rattle.gob_state.specs.Reads.{ReadsSpelling}
use Rattle.gob_text.specs.Words.{GoesOnAtAll}
use Rattle.gob_segments.specs.Applied.{AreApart, PipelinesAfter, later_text}

-- ---- the first version

pub alone_read : (ps : List (List ℕ)) (text : List ℕ) → AreApart ps → length ps ≡ 1
    → ReadsSpelling (later_text version_1 ps) (PipelinesAfter version_1 ps) GoesOnAtAll text text (Some ps)
alone_read ps text apart one = record {
  spelled = (record { more = inl refl; apart = apart; alone = (one, refl) }, refl);
  read = λ qs after f g e. (ap Some (sym f.alone.1), e);
}

pub not_alone : (ps : List (List ℕ)) (text : List ℕ) → (length ps ≡ 1 → ⊥)
    → ReadsSpelling (later_text version_1 ps) (PipelinesAfter version_1 ps) GoesOnAtAll text text None
not_alone ps text several = record { spelled = tt; read = λ qs after f g e. absurd (several f.alone.0) }

-- ---- the second version

drop_itself : (ps : List (List ℕ)) → drop (length ps) ps ≡ []
drop_itself [] = refl
drop_itself (p ∷ ps) = drop_itself ps

abbrev count_text : ℕ → List ℕ
count_text n = numbered_line (codes "pipelines") (n ∷ [])

none_text : (ps qs : List (List ℕ)) → qs ≡ ps → later_text version_2 ps qs ≡ count_text 0
none_text ps qs e =
    ap (λ ns. count_text (length ns) ++ flat_map pipeline_part ns) (ap (drop (length ps)) e ∙ drop_itself ps)
    ∙ append-nil (count_text 0)

one_text : (ps qs : List (List ℕ)) (p : List ℕ) → qs ≡ ps ++ p ∷ []
    → later_text version_2 ps qs ≡ count_text 1 ++ pipeline_part p
one_text ps qs p e =
    ap (λ ns. count_text (length ns) ++ flat_map pipeline_part ns)
    (ap (drop (length ps)) e ∙ drop-append_seam ps (p ∷ []))
    ∙ ap (λ x. count_text 1 ++ x) (append-nil (pipeline_part p))

abbrev CountReads : List ℕ → List ℕ → Option ℕ → Type 0
CountReads old mid o = ReadsSpelling count_text (λ n. n < 2 ^ 64) GoesOnAtAll old mid o

-- what a number that was read says of the pipelines
abbrev Told : List (List ℕ) → List (List ℕ) → List ℕ → List ℕ → Option ℕ → Type 0
Told ps qs mid after o = ((o ≡ Some 0) × (qs ≡ ps) × (mid ≡ after))
    ⊎ ((o ≡ Some 1) × (p : List ℕ) × (qs ≡ ps ++ p ∷ []) × (mid ≡ pipeline_part p ++ after))

told : (ps qs : List (List ℕ)) (old mid after : List ℕ) (o : Option ℕ) → CountReads old mid o
    → PipelinesAfter version_2 ps qs → old ≡ later_text version_2 ps qs ++ after → Told ps qs mid after o
told ps qs old mid after o r f e = ⊎_elim
    (λ same.
    let one = r.read 0 after (omega arith) tt (e ∙ ap (λ x. x ++ after) (none_text ps qs same)) in
    inl (one.0, same, one.1))
    (λ more.
    let one = r.read 1 (pipeline_part more.0 ++ after) (omega arith) tt
    (e ∙ ap (λ x. x ++ after) (one_text ps qs more.0 more.1)
    ∙ append_assoc (count_text 1) (pipeline_part more.0) after) in
    inr (one.0, more.0, more.1, one.1))
    f.more

abbrev Later : List (List ℕ) → List ℕ → List ℕ → Option (List (List ℕ)) → Type 0
Later ps old new o = ReadsSpelling (later_text version_2 ps) (PipelinesAfter version_2 ps) GoesOnAtAll old new o

pub no_count : (ps : List (List ℕ)) (old mid : List ℕ) (o : Option ℕ) → CountReads old mid o → o ≡ None
    → Later ps old mid None
no_count ps old mid o r none = record {
  spelled = tt;
  read = λ qs after f g e. absurd (⊎_elim
      (λ t. no_more 0 (sym none ∙ t.0))
      (λ t. no_more 1 (sym none ∙ t.0))
      (told ps qs old mid after o r f e));
}

same_count : (o : Option ℕ) (m n : ℕ) → o ≡ Some m → o ≡ Some n → m ≡ n
same_count o m n a b = same_Some m n (sym a ∙ b)

pub none_came : (ps : List (List ℕ)) (old mid : List ℕ) (o : Option ℕ) (count : ℕ) → AreApart ps → CountReads old mid o
    → o ≡ Some count → count ≡ 0 → Later ps old mid (Some ps)
none_came ps old mid o count apart r is zero_count =
    let there = subst (CountReads old mid) (is ∙ ap Some zero_count) r in
    record {
      spelled = (
        record { more = inl refl; apart = apart; alone = tt },
        there.spelled.1 ∙ ap (λ x. x ++ mid) (sym (none_text ps ps refl)),
      );
      read = λ qs after f g e. ⊎_elim
          (λ t. (ap Some (sym t.1), t.2))
          (λ t. absurd (let n = same_count o count 1 is t.0 in omega (arith, n, zero_count)))
          (told ps qs old mid after o r f e);
    }

pub too_many : (ps : List (List ℕ)) (old mid : List ℕ) (o : Option ℕ) (count : ℕ) → CountReads old mid o
    → o ≡ Some count → (count ≡ 0 → ⊥) → (count ≡ 1 → ⊥) → Later ps old mid None
too_many ps old mid o count r is some several = record {
  spelled = tt;
  read = λ qs after f g e. absurd (⊎_elim
      (λ t. some (same_count o count 0 is t.0))
      (λ t. several (same_count o count 1 is t.0))
      (told ps qs old mid after o r f e));
}

each_first : (P : List ℕ → Type 0) (xs : List (List ℕ)) (p : List ℕ) → AllByRecursion P (xs ++ p ∷ []) → P p
each_first P [] p a = a.0
each_first P (x ∷ xs) p a = each_first P xs p a.1

last_kept : (ps qs : List (List ℕ)) (p : List ℕ) → qs ≡ ps ++ p ∷ [] → AllByRecursion IsKeptPipeline qs
    → IsKeptPipeline p
last_kept ps qs p is all = each_first IsKeptPipeline ps p (subst (AllByRecursion IsKeptPipeline) is all)

pub none_there : (ps : List (List ℕ)) (old mid new : List ℕ) (o : Option ℕ) (count : ℕ) (q : Option (List ℕ))
    → CountReads old mid o → o ≡ Some count → (count ≡ 0 → ⊥)
    → ReadsSpelling pipeline_part IsKeptPipeline GoesOnAtAll mid new q → q ≡ None → Later ps old new None
none_there ps old mid new o count q r is some read none = record {
  spelled = tt;
  read = λ qs after f g e. absurd (⊎_elim
      (λ t. some (same_count o count 0 is t.0))
      (λ t. no_more t.1 (sym none ∙ (read.read t.1 after (last_kept ps qs t.1 t.2 f.apart.0) tt t.3).0))
      (told ps qs old mid after o r f e));
}

-- ---- different pipelines

swapped : (x p : List ℕ) → bytes_eq x p ≡ false → bytes_eq p x ≡ false
swapped x p e = two_names p x (λ same. true≢false (sym (ap (bytes_eq x) same ∙ name_itself x) ∙ e))

or_false : (a b : Bool) → a ≡ false → b ≡ false → (a || b) ≡ false
or_false true b e f = absurd (true≢false e)
or_false false b e f = f

or_falses : (a b : Bool) → (a || b) ≡ false → (a ≡ false) × (b ≡ false)
or_falses true b e = absurd (true≢false e)
or_falses false b e = (refl, e)

last_differs : (ps : List (List ℕ)) (p : List ℕ) → IsDistinct bytes_eq (ps ++ p ∷ []) → list_any (bytes_eq p) ps ≡ false
unfolding IsDistinct
last_differs [] p d = refl
last_differs (x ∷ xs) p d =
    or_false (bytes_eq p x) (list_any (bytes_eq p) xs)
    (swapped x p (each_first (λ y. bytes_eq x y ≡ false) xs p d.0)) (last_differs xs p d.1)

push_differs : (ps : List (List ℕ)) (p : List ℕ) → IsDistinct bytes_eq ps → list_any (bytes_eq p) ps ≡ false
    → IsDistinct bytes_eq (ps ++ p ∷ [])
unfolding IsDistinct
push_differs [] p d e = (tt, tt)
push_differs (x ∷ xs) p d e =
    let n = or_falses (bytes_eq p x) (list_any (bytes_eq p) xs) e in
    (each_push (λ y. bytes_eq x y ≡ false) xs p d.0 (swapped p x n.0), push_differs xs p d.1 n.1)

-- ---- one that came

abbrev OneReads : List ℕ → List ℕ → Option (List ℕ) → Type 0
OneReads mid new q = ReadsSpelling pipeline_part IsKeptPipeline GoesOnAtAll mid new q

pub came_before : (ps : List (List ℕ)) (old mid new : List ℕ) (o : Option ℕ) (count : ℕ) (q : Option (List ℕ))
    (p : List ℕ) → CountReads old mid o → o ≡ Some count → (count ≡ 0 → ⊥) → OneReads mid new q → q ≡ Some p
    → list_any (bytes_eq p) ps ≡ true → Later ps old new None
came_before ps old mid new o count q p r is some read there known = record {
  spelled = tt;
  read = λ qs after f g e. absurd (⊎_elim
      (λ t. some (same_count o count 0 is t.0))
      (λ t.
      let same : p ≡ t.1 = same_Some p t.1 (sym there ∙ (read.read t.1 after (last_kept ps qs t.1 t.2 f.apart.0) tt
      t.3).0) in
      true≢false (sym known ∙ ap (λ x. list_any (bytes_eq x) ps) same
      ∙ last_differs ps t.1 (subst (IsDistinct bytes_eq) t.2 f.apart.1)))
      (told ps qs old mid after o r f e));
}

pub one_came : (ps : List (List ℕ)) (old mid new : List ℕ) (o : Option ℕ) (count : ℕ) (q : Option (List ℕ)) (p : List ℕ)
    (all : List (List ℕ)) → AreApart ps → CountReads old mid o → o ≡ Some count → (count ≡ 0 → ⊥) → count ≡ 1
    → OneReads mid new q → q ≡ Some p → list_any (bytes_eq p) ps ≡ false → all ≡ ps ++ p ∷ []
    → Later ps old new (Some all)
one_came ps old mid new o count q p all apart r is some one read there fresh whole =
    subst (λ x. Later ps old new (Some x)) (sym whole) (record {
      spelled = (
        record {
          more = inr (p, refl);
          apart = (each_push IsKeptPipeline ps p apart.0 kept.spelled.0, push_differs ps p apart.1 fresh);
          alone = tt;
        },
        number.spelled.1 ∙ ap (λ x. count_text 1 ++ x) kept.spelled.1
            ∙ sym (append_assoc (count_text 1) (pipeline_part p) new)
            ∙ ap (λ x. x ++ new) (sym (one_text ps (ps ++ p ∷ []) p refl)),
      );
      read = λ qs after f g e. ⊎_elim
          (λ t. absurd (some (same_count o count 0 is t.0)))
          (λ t.
          let two = read.read t.1 after (last_kept ps qs t.1 t.2 f.apart.0) tt t.3 in
          let same : p ≡ t.1 = same_Some p t.1 (sym there ∙ two.0) in
          (ap Some (ap (λ x. ps ++ x ∷ []) same ∙ sym t.2), two.1))
          (told ps qs old mid after o r f e);
    })
  where
    number : CountReads old mid (Some 1)
    number = subst (CountReads old mid) (is ∙ ap Some one) r

    kept : OneReads mid new (Some p)
    kept = subst (OneReads mid new) there read

-- a test over a slice, as the code has it
pub any_is : (given p : List ℕ) (slice ps : List (List ℕ)) (r b : Bool) → r ≡ list_any (bytes_eq given) slice
    → given ≡ p → slice ≡ ps → r ≡ b → list_any (bytes_eq p) ps ≡ b
any_is given p slice ps r b tested level same is =
    (λ i. list_any (bytes_eq (sym level i)) (sym same i)) ∙ sym tested ∙ is
