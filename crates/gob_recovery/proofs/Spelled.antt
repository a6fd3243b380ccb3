-- A sequence's text determines its steps.
use Rattle.std.proofs.Common.{◌≡◌, inl, inr, ℕ, true, false, not, nat_eq, List, [], ◌∷◌, ◌++◌, length, refl, sym, ap}
use Rattle.std.proofs.Common.{subst, ◌∙◌, Some, None, append_assoc, codes, arith}
use Rattle.std.specs.List.{list_all, flat_map}
use Rattle.std.proofs.lemmas.Bool.{and_parts, and_from, eqb-true}
use Rattle.std.proofs.lemmas.Bool.{true≢false}
use Rattle.std.proofs.lemmas.Bool.Decides.{nat_tests}
use Rattle.gob_bytes.specs.Words.{words, numbered_line}
use Rattle.gob_device.specs.Disk.{contents_of}
use Rattle.gob_recovery.specs.Sequence.{CommitStep, move, remove, is_sequence_byte, is_file_name, step_fits, step_line}
use Rattle.gob_recovery.specs.Sequence.{sequence_text}
use Rattle.gob_recovery.specs.Settle.{after_finish, Settles}
use Rattle.gob_recovery.specs.Laws.{OneSpelling, SettlesToOne}

-- none of the bytes is this one
abbrev pub Free : ℕ → List ℕ → Type 0
Free sep bytes = list_all (λ b. not (nat_eq b sep)) bytes ≡ true

never : (c : ℕ) → not (nat_eq c c) ≡ true → ⊥
never c e = grind (arith, nat_tests)

pub parted : (sep : ℕ) (a c x y : List ℕ) → Free sep a → Free sep c → a ++ sep ∷ x ≡ c ++ sep ∷ y → (a ≡ c) × (x ≡ y)
parted sep [] [] x y fa fc e = (refl, cc)
parted sep [] (c ∷ cs) x y fa fc e =
    let same : sep ≡ c = cc in
    let apart : not (nat_eq c sep) ≡ true = (and_parts _ _ fc).0 in
    let no : not (nat_eq c c) ≡ true = subst (λ s. not (nat_eq c s) ≡ true) same apart in
    absurd (never c no)
parted sep (a ∷ as') [] x y fa fc e =
    let same : a ≡ sep = cc in
    let apart : not (nat_eq a sep) ≡ true = (and_parts _ _ fa).0 in
    absurd (never a (subst (λ s. not (nat_eq a s) ≡ true) (sym same) apart))
parted sep (a ∷ as') (c ∷ cs) x y fa fc e =
    let head : a ≡ c = cc in
    let tail : as' ++ sep ∷ x ≡ cs ++ sep ∷ y = cc in
    let r = parted sep as' cs x y (and_parts _ _ fa).1 (and_parts _ _ fc).1 tail in
    (λ i. head i ∷ r.0 i, r.1)

pub cancel : (xs a b : List ℕ) → xs ++ a ≡ xs ++ b → a ≡ b
cancel [] a b e = e
cancel (x ∷ xs) a b e = cancel xs a b (let tail : xs ++ a ≡ xs ++ b = cc in tail)

free_byte : (sep b : ℕ) → is_sequence_byte sep ≡ false → is_sequence_byte b ≡ true → not (nat_eq b sep) ≡ true
free_byte sep b out in_ = elim (nat_eq b sep) as (λ v. nat_eq b sep ≡ v → not v ≡ true) [
  | true ↦ λ e. absurd (let no : is_sequence_byte b ≡ false = ap is_sequence_byte (eqb-true b sep e) ∙ out in
      true≢false (sym in_ ∙ no))
  | false ↦ λ e. refl
] refl

free_bytes : (sep : ℕ) (bytes : List ℕ) → is_sequence_byte sep ≡ false → list_all is_sequence_byte bytes ≡ true
    → Free sep bytes
free_bytes sep [] out all = refl
free_bytes sep (b ∷ bs) out all =
    let p = and_parts (is_sequence_byte b) (list_all is_sequence_byte bs) all in
    and_from _ _ (free_byte sep b out p.0) (free_bytes sep bs out p.1)

pub free_name : (sep : ℕ) (name : List ℕ) → is_sequence_byte sep ≡ false → is_file_name name ≡ true → Free sep name
free_name sep [] out named = refl
free_name sep (b ∷ bs) out named = free_bytes sep (b ∷ bs) out named

move_text : (a b rest : List ℕ) → step_line (move a b) ++ rest ≡ codes "move " ++ (a ++ 32 ∷ (b ++ 10 ∷ rest))
move_text a b rest = ap (λ x. codes "move " ++ x) (append_assoc a (32 ∷ (b ++ 10 ∷ [])) rest
    ∙ ap (λ y. a ++ 32 ∷ y) (append_assoc b (10 ∷ []) rest))

remove_text : (a rest : List ℕ) → step_line (remove a) ++ rest ≡ codes "remove " ++ (a ++ 10 ∷ rest)
remove_text a rest = ap (λ x. codes "remove " ++ x) (append_assoc a (10 ∷ []) rest)

abbrev pub last_line : ℕ → List ℕ
last_line n = numbered_line (codes "end") (n ∷ [])

-- the steps and the last line
abbrev pub body : List CommitStep → ℕ → List ℕ
body ss n = flat_map step_line ss ++ last_line n

pub move_body : (a b : List ℕ) (ss : List CommitStep) (n : ℕ) → body (move a b ∷ ss) n ≡ codes "move "
    ++ (a ++ 32 ∷ (b ++ 10 ∷ body ss n))
move_body a b ss n = append_assoc (step_line (move a b)) (flat_map step_line ss) (last_line n)
    ∙ move_text a b (body ss n)

pub remove_body : (a : List ℕ) (ss : List CommitStep) (n : ℕ) → body (remove a ∷ ss) n ≡ codes "remove "
    ++ (a ++ 10 ∷ body ss n)
remove_body a ss n = append_assoc (step_line (remove a)) (flat_map step_line ss) (last_line n)
    ∙ remove_text a (body ss n)

pub names_of_move : (job a b : List ℕ) → step_fits job (move a b) ≡ true → (is_file_name a ≡ true)
    × (is_file_name b ≡ true)
names_of_move job a b e = let p = and_parts _ (is_file_name b) e in ((and_parts _ (is_file_name a) p.0).1, p.1)

pub name_of_remove : (job a : List ℕ) → step_fits job (remove a) ≡ true → is_file_name a ≡ true
name_of_remove job a e = (and_parts _ (is_file_name a) e).1

-- first bytes that differ
pub move_remove : (x y : List ℕ) → codes "move " ++ x ≡ codes "remove " ++ y → ⊥
move_remove x y e = let head : ◌≡◌ {A = ℕ} 109 114 = cc in omega (arith, head)

pub move_end : (x : List ℕ) (n : ℕ) → codes "move " ++ x ≡ last_line n → ⊥
move_end x n e = let head : ◌≡◌ {A = ℕ} 109 101 = cc in omega (arith, head)

pub remove_end : (x : List ℕ) (n : ℕ) → codes "remove " ++ x ≡ last_line n → ⊥
remove_end x n e = let head : ◌≡◌ {A = ℕ} 114 101 = cc in omega (arith, head)

pub same_steps : (job : List ℕ) (s t : List CommitStep) (n k : ℕ) → list_all (step_fits job) s ≡ true
    → list_all (step_fits job) t ≡ true → body s n ≡ body t k → s ≡ t
same_steps job [] [] n k fs ft e = refl
same_steps job [] (move a b ∷ ts) n k fs ft e = absurd (move_end _ n (sym (move_body a b ts k) ∙ sym e))
same_steps job [] (remove a ∷ ts) n k fs ft e = absurd (remove_end _ n (sym (remove_body a ts k) ∙ sym e))
same_steps job (move a b ∷ ss) [] n k fs ft e = absurd (move_end _ k (sym (move_body a b ss n) ∙ e))
same_steps job (remove a ∷ ss) [] n k fs ft e = absurd (remove_end _ k (sym (remove_body a ss n) ∙ e))
same_steps job (move a b ∷ ss) (remove c ∷ ts) n k fs ft e = absurd
    (move_remove _ _ (sym (move_body a b ss n) ∙ (e ∙ remove_body c ts k)))
same_steps job (remove a ∷ ss) (move c d ∷ ts) n k fs ft e = absurd
    (move_remove _ _ (sym (move_body c d ts k) ∙ (sym e ∙ remove_body a ss n)))
same_steps job (move a b ∷ ss) (move c d ∷ ts) n k fs ft e =
    let fp = and_parts (step_fits job (move a b)) (list_all (step_fits job) ss) fs in
    let tp = and_parts (step_fits job (move c d)) (list_all (step_fits job) ts) ft in
    let fn = names_of_move job a b fp.0 in
    let tn = names_of_move job c d tp.0 in
    let text : a ++ 32 ∷ (b ++ 10 ∷ body ss n) ≡ c ++ 32 ∷ (d ++ 10 ∷ body ts k) =
    cancel (codes "move ") _ _ (sym (move_body a b ss n) ∙ (e ∙ move_body c d ts k)) in
    let first = parted 32 a c (b ++ 10 ∷ body ss n) (d ++ 10 ∷ body ts k) (free_name 32 a refl fn.0)
    (free_name 32 c refl tn.0) text in
    let second = parted 10 b d (body ss n) (body ts k) (free_name 10 b refl fn.1) (free_name 10 d refl tn.1) first.1 in
    let rest = same_steps job ss ts n k fp.1 tp.1 second.1 in
    λ i. move (first.0 i) (second.0 i) ∷ rest i
same_steps job (remove a ∷ ss) (remove c ∷ ts) n k fs ft e =
    let fp = and_parts (step_fits job (remove a)) (list_all (step_fits job) ss) fs in
    let tp = and_parts (step_fits job (remove c)) (list_all (step_fits job) ts) ft in
    let text : a ++ 10 ∷ body ss n ≡ c ++ 10 ∷ body ts k = cancel (codes "remove ") _ _
    (sym (remove_body a ss n) ∙ (e ∙ remove_body c ts k)) in
    let first = parted 10 a c (body ss n) (body ts k) (free_name 10 a refl (name_of_remove job a fp.0))
    (free_name 10 c refl (name_of_remove job c tp.0)) text in
    let rest = same_steps job ss ts n k fp.1 tp.1 first.1 in
    λ i. remove (first.0 i) ∷ rest i

abbrev pub first_line : List ℕ
first_line = words (codes "gobblin-sequence") (codes "1" ∷ [])

pub whole_text : (s : List CommitStep) → sequence_text s ≡ first_line ++ body s (length s)
unfolding sequence_text
whole_text s = append_assoc first_line (flat_map step_line s) (last_line (length s))

pub spelling : OneSpelling
spelling job s t fs ft e = same_steps job s t (length s) (length t) fs.each ft.each
    (cancel first_line (body s (length s)) (body t (length t)) (sym (whole_text s) ∙ (e ∙ whole_text t)))

pub to_one : SettlesToOne
to_one job m a b sa sb = cases sa sb
  where
    cases : Settles job m a → Settles job m b → a ≡ b
    cases (inl x) (inl y) = x.1 ∙ sym y.1
    cases (inl x) (inr y) = absurd (let no : None ≡ Some y.1.file = sym x.0 ∙ y.1.here in cc)
    cases (inr x) (inl y) = absurd (let no : None ≡ Some x.1.file = sym y.0 ∙ x.1.here in cc)
    cases (inr x) (inr y) =
        let file : x.1.file ≡ y.1.file = let both : Some x.1.file ≡ Some y.1.file = sym x.1.here ∙ y.1.here in cc in
        let text : sequence_text x.0 ≡ sequence_text y.0 = sym x.1.reads.spelled
        ∙ (ap contents_of file ∙ y.1.reads.spelled) in
        x.3 ∙ (ap (λ ss. after_finish job ss m) (spelling job x.0 y.0 x.1.reads.fits y.1.reads.fits text) ∙ sym y.3)
