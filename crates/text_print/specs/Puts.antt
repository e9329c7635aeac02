-- What a writer puts, and the room that it takes.
use Rattle.std.specs.Prelude.{ℕ, ◌+◌, ◌≤◌, ◌≡◌, refl, List, [], ◌++◌, length}
use Rattle.std.proofs.Common.{arith, add-zero, sym, ap, ◌∙◌, length-append, append-nil, append_assoc}
use Rattle.text_print.specs.declared.Writer.{Writer}
use Rattle.text_print.specs.Written.{Written, written_then, written_long}

abbrev pub HasRoom : Writer → List ℕ → Type 0
HasRoom w text = w.at + length text ≤ length w.out.now

pub record Puts (before : Writer) (text : List ℕ) (after : Writer) : Type 0 where
  -- into the bytes that were lent, and no others
  pub lent : after.out.ghost_name ≡ before.out.ghost_name
  pub written : Written before.out.now before.at text after.out.now after.at

-- ---- one text, and then another

pub puts_then : {before : Writer} {t : List ℕ} {between : Writer} {u : List ℕ} {after : Writer}
    → Puts before t between → Puts between u after → Puts before (t ++ u) after
puts_then v w = record { lent = w.lent ∙ v.lent; written = written_then v.written w.written }

pub puts_as : {before : Writer} {t u : List ℕ} {after : Writer} → t ≡ u → Puts before u after → Puts before t after
puts_as e w = rw e w

pub room_first : (w : Writer) (t u : List ℕ) → HasRoom w (t ++ u) → HasRoom w t
room_first w t u h = omega (arith, length-append t u)

pub room_then : (before : Writer) (t u : List ℕ) (between : Writer) → HasRoom before (t ++ u) → Puts before t between → HasRoom between u
room_then before t u between h w = omega (arith, length-append t u, w.written.place, written_long w.written)

-- ---- a loop that puts a text piece by piece

-- what is put so far and the rest are the text
pub record Left (before : Writer) (text : List ℕ) (now : Writer) (rest : List ℕ) : Type 0 where
  pub so_far : List ℕ
  pub whole : text ≡ so_far ++ rest
  pub puts : Puts before so_far now

pub all_left : (w : Writer) (text rest : List ℕ) → text ≡ rest → Left w text w rest
all_left w text rest e = record {
  so_far = [];
  whole = e;
  puts = record { lent = refl; written = record { bytes = refl; place = sym (add-zero w.at) } };
}

module _ {before : Writer} {text : List ℕ} {now : Writer} {rest : List ℕ} (s : Left before text now rest) where
  pub none_left : rest ≡ [] → Puts before text now
  none_left e = puts_as (s.whole ∙ ap (λ (l : List ℕ). s.so_far ++ l) e ∙ append-nil s.so_far) s.puts

  -- all that is left is put
  pub put_last : (t : List ℕ) → rest ≡ t → {after : Writer} → Puts now t after → Puts before text after
  put_last t e w = puts_as (s.whole ∙ ap (λ (l : List ℕ). s.so_far ++ l) e) (puts_then s.puts w)

  pub room_left : HasRoom before text → HasRoom now rest
  room_left h = room_then before s.so_far rest now (rw (← s.whole) h) s.puts

  module _ (t more : List ℕ) (e : rest ≡ t ++ more) where
    -- room for what comes next, and for all after it
    pub room_both : HasRoom before text → now.at + length t + length more ≤ length now.out.now
    room_both h = omega (arith, ap length e, length-append t more, room_left h)

    pub room_next : HasRoom before text → HasRoom now t
    room_next h = omega (arith, room_both h)

    pub put_next : {after : Writer} → Puts now t after → Left before text after more
    put_next w = record {
      so_far = s.so_far ++ t;
      whole = s.whole ∙ ap (λ (l : List ℕ). s.so_far ++ l) e ∙ sym (append_assoc s.so_far t more);
      puts = puts_then s.puts w;
    }
