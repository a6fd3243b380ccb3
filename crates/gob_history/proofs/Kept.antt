-- What is kept, file by file: the same files keep the same, each ends a line, and the state is proper.
use Rattle.std.proofs.Common.{◌≡◌, ℕ, Bool, true, false, cond, ◌||◌, List, [], ◌∷◌, ◌++◌, refl, sym, ap, subst, ◌∙◌}
use Rattle.std.proofs.Common.{Some, None, codes, option_map}
use Rattle.std.proofs.lemmas.Bool.{or_right}
use Rattle.std.proofs.lemmas.Option.{same_Some}
use Rattle.std.specs.declared.option.Option.{Option}
use Rattle.std.specs.Str.{bytes_eq}
use Rattle.gob_bytes.specs.Paths.{begins_with, state_name, delta_folder, delta_name, keeps_state}
use Rattle.gob_bytes.specs.Words.{numbered_line}
use Rattle.gob_bytes.proofs.Tables.{same_name}
use Rattle.gob_bytes.proofs.Paths.{is_state_file}
use Rattle.gob_device.specs.Disk.{Files, contents_at}
use Rattle.gob_ledger.specs.State.{State}
use Rattle.gob_ledger.specs.Spelling.{Version, version_number, Proper, pipelines_text, totals_text, parts_text}
use Rattle.gob_ledger.specs.Spelling.{state_spelling, file_text}
use Rattle.gob_ledger.specs.Delta.{Kept, KeepsAs, EachLeads, last_state, state_of, delta_at, delta_spelling}
use Rattle.gob_ledger.specs.Delta.{new_pipelines, changed_parts}
use Rattle.gob_history.specs.Sound.{Stores}

pub is_change : (job name : List ℕ) → begins_with (delta_folder job) name ≡ true → keeps_state job name ≡ true
is_change job name e = or_right (bytes_eq name (state_name job)) _ e

-- maps that read alike where the state is told keep the same
pub keeps_alike : (job : List ℕ) (m n : Files) (k : Option Kept)
    → ((name : List ℕ) → keeps_state job name ≡ true → contents_at n name ≡ contents_at m name) → KeepsAs job m k
    → KeepsAs job n k
keeps_alike job m n None same h = record {
  base = same (state_name job) (is_state_file job) ∙ h.base;
  deltas = λ name p.
      same name (is_change job name p) ∙ h.deltas name p;
}
keeps_alike job m n (Some k) same h = (
  record {
    base = same (state_name job) (is_state_file job) ∙ h.0.base;
    deltas =
        λ name p. same name (is_change job name p) ∙ h.0.deltas name p;
  },
  h.1,
)

-- ---- each file ends a line

abbrev pub EndsLine : List ℕ → Type 0
EndsLine c = (front : List ℕ) × (c ≡ front ++ 10 ∷ [])

file_ends : (kind : List ℕ) (v : Version) (run : ℕ) (inner : List ℕ) → EndsLine (file_text kind v run inner)
file_ends kind v run inner = (
  numbered_line kind (version_number v ∷ []) ++ numbered_line (codes "run") (run ∷ []) ++ inner
      ++ codes "end",
  refl,
)

state_ends : (v : Version) (s : State) → EndsLine (state_spelling v s)
unfolding state_spelling
state_ends v s = file_ends (codes "gobblin-state") v s.run (pipelines_text v s.pipelines ++ totals_text s.totals
    ++ parts_text v s.parts)

delta_ends : (v : Version) (s t : State) → EndsLine (delta_spelling v s t)
unfolding delta_spelling
delta_ends v s t = file_ends (codes "gobblin-delta") v t.run (new_pipelines v s t ++ totals_text t.totals
    ++ parts_text v (changed_parts s t))

here_or : (b : Bool) (text : List ℕ) (later : Option (List ℕ)) (c : List ℕ) → EndsLine text
    → (later ≡ Some c → EndsLine c) → cond b (Some text) later ≡ Some c → EndsLine c
here_or true text later c here there e = subst EndsLine (same_Some text c e) here
here_or false text later c here there e = there e

change_ends : (job : List ℕ) (v : Version) (s : State) (ts : List State) (name c : List ℕ)
    → delta_at job v s ts name ≡ Some c → EndsLine c
change_ends job v s [] name c e = absurd (let no : None ≡ Some c = e in cc)
change_ends job v s (t ∷ ts) name c e = here_or (bytes_eq name (delta_name job t.run)) (delta_spelling v s t)
    (delta_at job v t ts name) c (delta_ends v s t) (λ f. change_ends job v t ts name c f) e

-- a file that tells the state ends a line
pub stored_ends : (job : List ℕ) (m : Files) (o : Option State) (name c : List ℕ) → Stores job m o
    → keeps_state job name ≡ true → contents_at m name ≡ Some c → EndsLine c
stored_ends job m o name c h p e = by_kept h.0 h.1
  where
    by_kept : (k : Option Kept) → KeepsAs job m k → EndsLine c
    by_kept None g = by_name (bytes_eq name (state_name job)) refl p
      where
        by_name : (b : Bool) → bytes_eq name (state_name job) ≡ b → (b || begins_with (delta_folder job) name) ≡ true
            → EndsLine c
        by_name true is p = absurd (let no : None ≡ Some c = sym
            (ap (contents_at m) (same_name name (state_name job) is) ∙ g.base) ∙ e in cc)
        by_name false is p = absurd (let no : None ≡ Some c = sym (g.deltas name p) ∙ e in cc)
    by_kept (Some k) g = by_name (bytes_eq name (state_name job)) refl p
      where
        by_name : (b : Bool) → bytes_eq name (state_name job) ≡ b → (b || begins_with (delta_folder job) name) ≡ true
            → EndsLine c
        by_name true is p = subst EndsLine (same_Some _ _ (sym
            (ap (contents_at m) (same_name name (state_name job) is) ∙ g.0.base) ∙ e)) (state_ends k.version k.base)
        by_name false is p = change_ends job k.version k.base k.later name c (sym (g.0.deltas name p) ∙ e)

-- ---- the state is proper

last_proper : (v : Version) (s : State) (ts : List State) → Proper s → EachLeads v s ts → Proper (last_state s ts)
last_proper v s [] p each = p
last_proper v s (t ∷ ts) p each = last_proper v t ts each.0.proper each.1

pub stored_proper : (job : List ℕ) (m : Files) (s : State) → Stores job m (Some s) → Proper s
stored_proper job m s h = cases h.0 h.1 h.2
  where
    cases : (k : Option Kept) → KeepsAs job m k → option_map state_of k ≡ Some s → Proper s
    cases None g e = absurd (let no : None ≡ Some s = e in cc)
    cases (Some k) g e = subst Proper (same_Some _ _ e) (last_proper k.version k.base k.later g.1.base g.1.later)
