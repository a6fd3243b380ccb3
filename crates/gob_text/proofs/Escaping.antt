-- The set of bytes that are escaped is that of the definition.
use Rattle.std.proofs.Common.{◌≡◌, ℕ, ◌<◌, true, false, not, cond, List, [], ◌∷◌, ◌++◌, refl, ap, ◌∙◌, sym, take}
use Rattle.std.proofs.Common.{get_or, length, append-nil, append_assoc, ◌≢◌}
use Rattle.std.proofs.lemmas.List.{append_cancel_left}
use Rattle.gob_bytes.proofs.Forms.{unescaped}
use Rattle.std.proofs.Math.Seq.{take-append_seam}
use Rattle.gob_bytes.specs.Additions.{AddsFront}
use Rattle.std.proofs.lemmas.Bool.{agree_below_at}
use Rattle.std.proofs.lemmas.List.Elements.{All-head, All-tail, All-from_get_or}
use Rattle.percent_encoding.specs.AsciiSet.{should_percent_encode}
use Rattle.percent_encoding.specs.Percent.{percent_encode, encode_byte, percent_encode_byte, percent_decode}
use Rattle.gob_bytes.specs.Escapes.{AreBytes, is_plain, escape_of}
use Rattle.gob_text.specs.declared.names.TheConstants.{ESCAPED}

set_agrees : (b : ℕ) → b < 256 → should_percent_encode ESCAPED b ≡ not (is_plain b)
unfolding should_percent_encode
set_agrees b small = agree_below_at (should_percent_encode ESCAPED) (λ c. not (is_plain c)) 256 b refl small

encoded_byte : (b : ℕ) (more : List ℕ) → b < 256 →
    encode_byte ESCAPED b ≡ cond (is_plain b) (b ∷ []) (percent_encode_byte b)
encoded_byte b more small =
    rw (set_agrees b small)
    (elim (is_plain b) as
    (λ v. cond (not v) (percent_encode_byte b) (b ∷ []) ≡
    cond v (b ∷ []) (percent_encode_byte b)) [ true ↦ refl | false ↦ refl ])

pub encoded_is_escaped : (bs : List ℕ) → AreBytes bs → percent_encode ESCAPED bs ≡ escape_of bs
unfolding percent_encode escape_of
encoded_is_escaped [] small = refl
encoded_is_escaped (b ∷ bs) small =
    ap (λ x. x ++ percent_encode ESCAPED bs) (encoded_byte b bs (All-head (λ c. c < 256) b bs small))
    ∙ ap (λ x. cond (is_plain b) (b ∷ []) (percent_encode_byte b) ++ x)
    (encoded_is_escaped bs (All-tail (λ c. c < 256) b bs small))

-- what was there and the pieces so far are what was there and a front of the escaped name
pub front_added : (old now done left name : List ℕ) → AreBytes name → now ≡ old ++ done →
    done ++ left ≡ percent_encode ESCAPED name → AddsFront old now (escape_of name)
front_added old now done left name small so_far whole =
    let e = whole ∙ encoded_is_escaped name small in
    (length done, so_far ∙ ap (λ x. old ++ x) (sym (take-append_seam done left) ∙ ap (take (length done)) e))

pub all_added : (old now done left name : List ℕ) → AreBytes name → now ≡ old ++ done →
    done ++ left ≡ percent_encode ESCAPED name → left ≡ [] → now ≡ old ++ escape_of name
all_added old now done left name small so_far whole none =
    so_far ∙ ap (λ x. old ++ x)
    (sym (append-nil done) ∙ ap (λ x. done ++ x) (sym none) ∙ whole ∙ encoded_is_escaped name small)

pub bytes_from_fits : (bs : List ℕ) → ((i : ℕ) → get_or bs i 0 < 256) → AreBytes bs
bytes_from_fits bs fits = All-from_get_or (λ b. b < 256) bs 0 (λ i within. fits i)

-- ---- whether a text is a name's spelling

pub spelled_more : (done left piece more full : List ℕ) → done ++ left ≡ full → left ≡ piece ++ more →
    (done ++ piece) ++ more ≡ full
spelled_more done left piece more full whole step = append_assoc done piece more ∙ ap (λ x. done ++ x) (sym step)
    ∙ whole

pub spelled_not : (text done rest left piece more name : List ℕ) → AreBytes name → text ≡ done ++ rest →
    done ++ left ≡ percent_encode ESCAPED name → left ≡ piece ++ more → ((after : List ℕ) → rest ≢ piece ++ after) →
    text ≢ escape_of name
spelled_not text done rest left piece more name small so_far whole step never same =
    never more
    (append_cancel_left done rest (piece ++ more)
    (sym so_far ∙ same ∙ sym (encoded_is_escaped name small) ∙ sym whole ∙ ap (λ x. done ++ x) step))

pub spelled_end : (text done rest left name : List ℕ) → AreBytes name → text ≡ done ++ rest →
    done ++ left ≡ percent_encode ESCAPED name → left ≡ [] →
    ((rest ≡ []) → text ≡ escape_of name) × (text ≡ escape_of name → rest ≡ [])
spelled_end text done rest left name small so_far whole none =
    let e : done ++ [] ≡ escape_of name = ap (λ x. done ++ x) (sym none) ∙ whole ∙ encoded_is_escaped name small in (
      λ empty. so_far ∙ ap (λ x. done ++ x) empty ∙ e,
      λ same. append_cancel_left done rest [] (sym so_far ∙ same ∙ sym e),
    )

-- text that decodes to bytes whose spelling it is not is no spelling
pub no_spelling : (text : List ℕ) → text ≢ escape_of (percent_decode text) → (bytes : List ℕ) → AreBytes bytes →
    escape_of bytes ≢ text
no_spelling text differs bytes small same =
    differs (sym same ∙ ap escape_of (sym (unescaped bytes small) ∙ ap percent_decode same))
