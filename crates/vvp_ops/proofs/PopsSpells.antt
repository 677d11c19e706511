-- The words of calls and their pops: what is read is spelled so, and what is spelled so is read.
use Rattle.std.proofs.Common.{◌≡◌, ℕ, suc, List, [], ◌∷◌, length, drop, codes, Bool, true, false, ◌||◌, ◌==◌, nat_eq, Option, None, Some, is_some, refl, ap, ◌∙◌, subst, if◌then◌else◌, inl, inr, eqb-true, arith}
use Rattle.std.specs.Str.{bytes_eq}
use Rattle.std.proofs.lemmas.List.{drop_all}
use Rattle.vvp_lex.specs.declared.types.Spanned.{Spanned}
use Rattle.vvp_lex.specs.declared.types.Token.TheVariants as token
use Rattle.vvp_lex.specs.Place.{number_at, Begins, is_mark_at, mark_at}
use Rattle.vvp_ops.specs.Calls.{is_task, is_function, zero_at, pops_of}
use Rattle.vvp_ops.specs.Spelled.{ArePops, IsTaskWord, IsFunctionWord}
use Rattle.vvp_lex.proofs.FrontLemmas.{bind-some, number-sound, number-complete, mark-sound, mark-complete}
use Rattle.vvp_ops.proofs.ArgumentSpells.{if-some, same_bytes}

-- the words of calls
pub task_word-sound : (word : List ℕ) → is_task word ≡ true → IsTaskWord word
unfolding is_task
task_word-sound word h = by (bytes_eq word (codes "%vpi_call")) refl h
  where
    last : (third : Bool) → bytes_eq word (codes "%vpi_call/i") ≡ third → third ≡ true → IsTaskWord word
    last third e h = inr (inr (same_bytes word _ (e ∙ h)))

    later : (second : Bool) → bytes_eq word (codes "%vpi_call/w") ≡ second → (second || bytes_eq word (codes "%vpi_call/i")) ≡ true → IsTaskWord word
    later true e h = inr (inl (same_bytes word _ e))
    later false e h = last _ refl h

    by : (first : Bool) → bytes_eq word (codes "%vpi_call") ≡ first → (first || bytes_eq word (codes "%vpi_call/w") || bytes_eq word (codes "%vpi_call/i")) ≡ true → IsTaskWord word
    by true e h = inl (same_bytes word _ e)
    by false e h = later (bytes_eq word (codes "%vpi_call/w")) refl h

pub task_word-complete : (word : List ℕ) → IsTaskWord word → is_task word ≡ true
unfolding is_task
task_word-complete word (inl is) = rw is refl
task_word-complete word (inr (inl is)) = rw is refl
task_word-complete word (inr (inr is)) = rw is refl

pub function_word-sound : (word : List ℕ) → is_function word ≡ true → IsFunctionWord word
unfolding is_function
function_word-sound word h = same_bytes word _ h

pub function_word-complete : (word : List ℕ) → IsFunctionWord word → is_function word ≡ true
unfolding is_function
function_word-complete word is = rw is refl

-- a 0 at a place
abbrev if_zero : Bool → Option (Unit {0})
if_zero test = if test then Some tt else None

zero_of : (value : ℕ) (test : Bool) → nat_eq value 0 ≡ test → if_zero test ≡ Some tt → value ≡ 0
zero_of value true e h = eqb-true value 0 e
zero_of value false e h = cc

zero-sound : (place : ℕ) (tokens : List Spanned) → zero_at tokens place ≡ Some tt → Begins (token.Number 0) (drop place tokens) (drop (suc place) tokens)
zero-sound place tokens h =
    let found = bind-some (number_at tokens place) _ tt h in
    let zero = zero_of found.0 (nat_eq found.0 0) refl found.2 in
    number-sound place tokens 0 (found.1 ∙ ap Some zero)

zero-complete : (place : ℕ) (tokens here rest : List Spanned) → drop place tokens ≡ here → Begins (token.Number 0) here rest → (zero_at tokens place ≡ Some tt) × (drop (suc place) tokens ≡ rest)
zero-complete place tokens here rest from one =
    let found = number-complete place tokens here rest 0 from one in (rw found.0 refl, found.1)

-- `{n 0 0}` at the end
pub pops-sound : (tokens : List Spanned) (pops : ℕ) → pops_of tokens ≡ Some pops → ArePops tokens pops
unfolding pops_of
pops-sound tokens pops h =
    let opens = bind-some (mark_at tokens 0 123) _ pops h in
    let number = bind-some (number_at tokens 1) _ pops opens.2 in
    let second = bind-some (zero_at tokens 2) _ pops number.2 in
    let third = bind-some (zero_at tokens 3) _ pops second.2 in
    let closes = bind-some (mark_at tokens 4 125) _ pops third.2 in
    let last = if-some (length tokens == 5) number.0 pops closes.2 in
    let end : drop 5 tokens ≡ [] = drop_all 5 tokens (let five : length tokens ≡ 5 = eqb-true _ _ last.0 in omega (arith, five)) in
    record {
      t1 = drop 1 tokens;
      t2 = drop 2 tokens;
      t3 = drop 3 tokens;
      t4 = drop 4 tokens;
      opens = mark-sound 0 tokens 123 opens.1;
      has_pops = number-sound 1 tokens pops (number.1 ∙ ap Some last.1);
      second = zero-sound 2 tokens second.1;
      third = zero-sound 3 tokens third.1;
      closes = subst (Begins (token.Punct 125) (drop 4 tokens)) end (mark-sound 4 tokens 125 closes.1);
    }

pub pops-complete : (tokens : List Spanned) (pops : ℕ) → ArePops tokens pops → pops_of tokens ≡ Some pops
unfolding pops_of
pops-complete tokens pops s =
    let opens = mark-complete 0 tokens tokens s.t1 123 refl s.opens in
    let number = number-complete 1 tokens s.t1 s.t2 pops opens.1 s.has_pops in
    let second = zero-complete 2 tokens s.t2 s.t3 number.1 s.second in
    let third = zero-complete 3 tokens s.t3 s.t4 second.1 s.third in
    let closes = mark-complete 4 tokens s.t4 [] 125 third.1 s.closes in
    let all : tokens ≡ s.opens.0 ∷ s.has_pops.0 ∷ s.second.0 ∷ s.third.0 ∷ s.closes.0 ∷ [] =
    s.opens.1 ∙ ap (λ l. s.opens.0 ∷ l) (s.has_pops.1 ∙ ap (λ l. s.has_pops.0 ∷ l) (s.second.1 ∙ ap (λ l. s.second.0 ∷ l) (s.third.1 ∙ ap (λ l. s.third.0 ∷ l) s.closes.1))) in
    let five : (length tokens == 5) ≡ true = rw all refl in
    rw (opens.0, number.0, second.0, third.0, closes.0, five) refl

-- a brace begins no argument
pub pops-no_mark : (byte : ℕ) (tokens : List Spanned) (pops : ℕ) → nat_eq 123 byte ≡ false → ArePops tokens pops → is_some (mark_at tokens 0 byte) ≡ false
unfolding mark_at is_mark_at
pops-no_mark byte tokens pops other s = rw (s.opens.1, s.opens.2, other) refl
