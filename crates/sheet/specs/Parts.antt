-- What the reader promises of each part of a sheet: its first fault, and where there is none what the part says.
--
-- Read v P r           == r refuses the fault v, or where that is 0 it is what P says
-- LineRead s n i r     == r is what the line of n columns at byte i holds
-- HeaderRead s r       == r is what line one holds; Counted s h == h is that
-- StatesRead s n r after == r refuses the first fault of the lines of the n states; where there is none, after are the marks
-- TransitionsRead s states letters n kept r after == r refuses the first fault of the lines of the n transitions; where there is none, kept has
--                         become after, with their numbers at its front
-- RestRead s list r after marks == r refuses what is refused of a sheet whose line one has no fault, after is what the list holds then; where
--                         nothing is refused, marks are those of the states
use Rattle.std.specs.Prelude.{ℕ, ◌+◌, ◌*◌, ◌<◌, ◌≡◌, List, length, get_or, None, Some, Result, Ok, Err, ⊤}
use Rattle.basics.specs.Lists.{put}
use Rattle.basics.specs.Each.{each_below}
use Rattle.fsbm.specs.Answers.{refusal}
use Rattle.fsbm.specs.declared.answer.Refusal.{Refusal}
use Rattle.sheet.specs.declared.header.Header.{Header}
use Rattle.sheet.specs.Format.{transition_start}
use Rattle.sheet.specs.Series.{first_of}
use Rattle.sheet.specs.Reading.{column_at, line_fault, header_fault, state_fault, transition_fault, marks_of, numbers_in, read_refusal, read_list}

abbrev pub Read : {A : Type 0} → ℕ → (A → Type 0) → Result A Refusal → Type 0
Read v P (Ok a) = (v ≡ 0) × P a
Read v P (Err f) = (v ≡ 0 → ⊥) × (f ≡ refusal v)

-- the numbers of n columns from byte i on
pub record Numbers (s : List ℕ) (n i : ℕ) (numbers : List ℕ) : Type 0 where
  pub size : length numbers ≡ n
  pub are : (j : ℕ) → j < n → get_or numbers j 0 ≡ column_at s (i + j * 5)

abbrev pub LineRead : List ℕ → ℕ → ℕ → Result (List ℕ) Refusal → Type 0
LineRead s n i r = Read (line_fault s n i) (Numbers s n i) r

pub record Counted (s : List ℕ) (h : Header) : Type 0 where
  pub none : header_fault s ≡ 0
  pub states : h.states ≡ column_at s 0
  pub letters : h.letters ≡ column_at s 5
  pub transitions : h.transitions ≡ column_at s 10

abbrev pub HeaderRead : List ℕ → Result Header Refusal → Type 0
HeaderRead s r = Read (header_fault s) (Counted s) r

abbrev pub StatesRead : List ℕ → ℕ → Result ⊤ Refusal → List ℕ → Type 0
StatesRead s n r after = Read (first_of n (state_fault s)) (λ _. after ≡ marks_of s n) r

abbrev pub TransitionsRead : List ℕ → ℕ → ℕ → ℕ → List ℕ → Result ⊤ Refusal → List ℕ → Type 0
TransitionsRead s states letters n kept r after =
    Read (first_of n (transition_fault s states letters)) (λ _. after ≡ put 0 kept (each_below n (λ k. numbers_in s (transition_start states k)))) r

abbrev pub RestRead : List ℕ → List ℕ → Result ⊤ Refusal → List ℕ → List ℕ → Type 0
RestRead s list (Ok u) after marks = (read_refusal s (length list) ≡ None) × (after ≡ read_list s list) × (marks ≡ marks_of s (column_at s 0))
RestRead s list (Err f) after marks = (read_refusal s (length list) ≡ Some f) × (after ≡ read_list s list)
