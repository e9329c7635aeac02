-- Text that was put into the caller's bytes from a place on; the rest of them is as it was.
use Rattle.std.specs.Prelude.{ℕ, suc, ◌+◌, ◌-◌, ◌≤◌, ◌≡◌, List, [], ◌∷◌, ◌++◌, length, set}
use Rattle.std.proofs.Common.{arith, add-zero, sym, ap, ◌∙◌, length-append, append_assoc, drop-drop}
use borrow.Rule.Slice.PartMut.{put_mid}
use Rattle.std.proofs.lemmas.List.Edits.{sets, sets-eq}
use Rattle.std.proofs.Math.Seq.{length-sets}

pub record Written (before : List ℕ) (at : ℕ) (text : List ℕ) (after : List ℕ) (next : ℕ) : Type 0 where
  pub bytes : after ≡ sets before at text
  pub place : next ≡ at + length text

-- ---- laws

sets_append : (l : List ℕ) (i : ℕ) (a b : List ℕ) → sets l i (a ++ b) ≡ sets (sets l i a) (i + length a) b
sets_append l i [] b = ap (λ (k : ℕ). sets l k b) (sym (add-zero i))
sets_append l i (x ∷ a) b =
    let e : suc i + length a ≡ i + suc (length a) = omega arith in
    sets_append (set l i x) (suc i) a b ∙ ap (λ (k : ℕ). sets (sets (set l i x) (suc i) a) k b) e

pub written_long : {l : List ℕ} {at : ℕ} {t l' : List ℕ} {n : ℕ} → Written l at t l' n → length l' ≡ length l
written_long {l = l} {at = at} {t = t} w = ap length w.bytes ∙ length-sets l at t

-- one text, and then another from where it ends
pub written_then : {l : List ℕ} {at : ℕ} {t u l' : List ℕ} {n : ℕ} {l'' : List ℕ} {m : ℕ} → Written l at t l' n → Written l' n u l'' m → Written l at (t ++ u) l'' m
written_then {l = l} {at = at} {t = t} {u = u} {l' = l'} v w =
    record {
      bytes =
          w.bytes ∙ ap (λ (k : ℕ). sets l' k u) v.place ∙ ap (λ (k : List ℕ). sets k (at + length t) u) v.bytes
          ∙ sym (sets_append l at t u);
      place = omega (arith, v.place, w.place, length-append t u);
    }

-- a text in its part of the bytes
pub placed : (l t part : List ℕ) (at : ℕ) → part ≡ t → at + length t ≤ length l → put_mid at (at + length t - at) l part ≡ sets l at t
placed l t part at e h =
    let k : at + length t - at ≡ length t = omega arith in
    rw (e, k, sets-eq t l at h, drop-drop (length t) at l, append_assoc)
