-- The arguments of a call: what is read is spelled so, and what is spelled so is read.
use Rattle.std.proofs.Common.{◌≡◌, ℕ, ◌<◌, List, [], ◌∷◌, length, drop, codes, Bool, true, false, not, ◌&&◌, nat_eq, nat_lt, Option, None, Some, refl, ap, subst, if◌then◌else◌, eqb-true}
use Rattle.std.specs.List.{list_all}
use Rattle.std.specs.Char.{is_ascii_digit}
use Rattle.std.specs.Str.{bytes_eq}
use Rattle.std.proofs.lemmas.Bool.{ltb-true, lt-ltb, and_parts}
use Rattle.std.proofs.lemmas.List.Sums.{AllPass-from_list_all, list_all-from_AllPass}
use Rattle.std.proofs.lemmas.Slice.Eq.{bytes_eq-Decides}
use Rattle.vvp_lex.specs.declared.types.Name.{Name}
use Rattle.vvp_lex.specs.declared.types.Spanned.{Spanned}
use Rattle.vvp_lex.specs.declared.types.Token.TheVariants as token
use Rattle.vvp_ops.specs.declared.args.Arg.{Arg}
use Rattle.vvp_ops.specs.declared.args.Arg.TheVariants as a
use Rattle.vvp_lex.specs.Place.{bytes_of, number_at, word_at, Begins, mark_at}
use Rattle.vvp_ops.specs.Tokens.{decimal}
use Rattle.vvp_ops.specs.Arguments.{stack_type, stack_argument, array_argument, part_argument, place_argument}
use Rattle.vvp_ops.specs.Spelled.{OneWord, IsStackType, IsStack, IsArrayWord, IsPart}
use Rattle.vvp_lex.proofs.FrontLemmas.{bind-some, some_inj, number-sound, number-complete, word-sound, word-complete, mark-sound, mark-complete}

pub same_bytes : (word text : List ℕ) → bytes_eq word text ≡ true → word ≡ text
same_bytes word text h = (bytes_eq-Decides word text).0 h

pub bytes_same : (word text : List ℕ) → word ≡ text → bytes_eq word text ≡ true
bytes_same word text h = (bytes_eq-Decides word text).1 h

pub if-some : {A : Type 0} (test : Bool) (x y : A) → (if test then Some x else None) ≡ Some y → (test ≡ true) × (x ≡ y)
if-some true x y h = (refl, some_inj x y h)
if-some false x y h = cc

-- the sign and the width of a stack item, by the tests on its first byte
abbrev Type_of : Type 0
Type_of = Option (Bool × ℕ)

abbrev if_signed : Bool → List ℕ → Type_of
if_signed test digits = if test then Some (true, decimal digits) else None

abbrev if_unsigned : Bool → ℕ → List ℕ → Type_of
if_unsigned test first digits = if test then Some (false, decimal digits) else if_signed (nat_eq first 115) digits

abbrev if_digits : Bool → ℕ → List ℕ → Type_of
if_digits test first digits = if not test then None else if_unsigned (nat_eq first 117) first digits

abbrev IsType : List ℕ → Bool × ℕ → Type 0
IsType word found = IsStackType found.0 found.1 word

signed-sound : (test : Bool) (first : ℕ) (digits : List ℕ) (found : Bool × ℕ) → nat_eq first 115 ≡ test → 0 < length digits → list_all is_ascii_digit digits ≡ true → if_signed test digits ≡ Some found → IsType (first ∷ digits) found
signed-sound true first digits found e some all h =
    subst (IsType (first ∷ digits)) (some_inj (true, decimal digits) found h) (digits, ap (λ b. b ∷ digits) (eqb-true first 115 e), some, AllPass-from_list_all is_ascii_digit digits all, refl)
signed-sound false first digits found e some all h = cc

unsigned-sound : (test : Bool) (first : ℕ) (digits : List ℕ) (found : Bool × ℕ) → nat_eq first 117 ≡ test → 0 < length digits → list_all is_ascii_digit digits ≡ true → if_unsigned test first digits ≡ Some found → IsType (first ∷ digits) found
unsigned-sound true first digits found e some all h =
    subst (IsType (first ∷ digits)) (some_inj (false, decimal digits) found h) (digits, ap (λ b. b ∷ digits) (eqb-true first 117 e), some, AllPass-from_list_all is_ascii_digit digits all, refl)
unsigned-sound false first digits found e some all h = signed-sound (nat_eq first 115) first digits found refl some all h

digits-sound : (test : Bool) (first : ℕ) (digits : List ℕ) (found : Bool × ℕ) → (nat_lt 0 (length digits) && list_all is_ascii_digit digits) ≡ test → if_digits test first digits ≡ Some found → IsType (first ∷ digits) found
digits-sound true first digits found e h =
    let parts = and_parts _ _ e in
    unsigned-sound (nat_eq first 117) first digits found refl (ltb-true _ _ parts.0) parts.1 h
digits-sound false first digits found e h = cc

stack_type-sound : (word : List ℕ) (signed : Bool) (width : ℕ) → stack_type word ≡ Some (signed, width) → IsStackType signed width word
unfolding stack_type
stack_type-sound [] signed width h = cc
stack_type-sound (first ∷ digits) signed width h = digits-sound _ first digits (signed, width) refl h

stack_type-complete : (word : List ℕ) (signed : Bool) (width : ℕ) → IsStackType signed width word → stack_type word ≡ Some (signed, width)
unfolding stack_type
stack_type-complete word false width is =
    let some : nat_lt 0 (length is.0) ≡ true = lt-ltb _ _ is.2 in
    let all : list_all is_ascii_digit is.0 ≡ true = list_all-from_AllPass is_ascii_digit is.0 is.3 in
    rw (is.1, some, all, is.4) refl
stack_type-complete word true width is =
    let some : nat_lt 0 (length is.0) ≡ true = lt-ltb _ _ is.2 in
    let all : list_all is_ascii_digit is.0 ≡ true = list_all-from_AllPass is_ascii_digit is.0 is.3 in
    rw (is.1, some, all, is.4) refl

-- the parts of a stack item after its word
pub stack-sound : (file : List ℕ) (tokens : List Spanned) (arg : Arg Name) → OneWord file (codes "S") tokens (drop 1 tokens) → stack_argument file tokens ≡ Some arg → (place : ℕ) × (width : ℕ) × (signed : Bool) × (a.Stack place width signed ≡ arg) × IsStack file tokens (drop 8 tokens) place width signed
unfolding stack_argument
stack-sound file tokens arg opens h =
    let less = bind-some (mark_at tokens 1 60) _ arg h in
    let place = bind-some (number_at tokens 2) _ arg less.2 in
    let comma = bind-some (mark_at tokens 3 44) _ arg place.2 in
    let kind = bind-some (word_at tokens 4) _ arg comma.2 in
    let second_comma = bind-some (mark_at tokens 5 44) _ arg kind.2 in
    let type = bind-some (word_at tokens 6) _ arg second_comma.2 in
    let more = bind-some (mark_at tokens 7 62) _ arg type.2 in
    let read = bind-some (stack_type (bytes_of file type.0)) _ arg more.2 in
    let last = if-some (bytes_eq (bytes_of file kind.0) (codes "vec4")) (a.Stack place.0 read.0.1 read.0.0) arg read.2 in (
      place.0,
      read.0.1,
      read.0.0,
      last.1,
      record {
        t1 = drop 1 tokens;
        t2 = drop 2 tokens;
        t3 = drop 3 tokens;
        t4 = drop 4 tokens;
        t5 = drop 5 tokens;
        t6 = drop 6 tokens;
        t7 = drop 7 tokens;
        type = type.0;
        opens = opens;
        less = mark-sound 1 tokens 60 less.1;
        has_place = number-sound 2 tokens place.0 place.1;
        comma = mark-sound 3 tokens 44 comma.1;
        vec4 = (kind.0, word-sound 4 tokens kind.0 kind.1, same_bytes _ _ last.0);
        second_comma = mark-sound 5 tokens 44 second_comma.1;
        has_type = word-sound 6 tokens type.0 type.1;
        more = mark-sound 7 tokens 62 more.1;
        means = stack_type-sound (bytes_of file type.0) read.0.0 read.0.1 read.1;
      },
    )

pub stack-complete : (file : List ℕ) (tokens rest : List Spanned) (place width : ℕ) (signed : Bool) → IsStack file tokens rest place width signed → (mark_at tokens 1 60 ≡ Some tt) × (stack_argument file tokens ≡ Some (a.Stack place width signed)) × (drop 8 tokens ≡ rest)
unfolding stack_argument
stack-complete file tokens rest place width signed s =
    let word = word-complete 0 tokens tokens s.t1 s.opens.0 refl s.opens.1 in
    let less = mark-complete 1 tokens s.t1 s.t2 60 word.1 s.less in
    let number = number-complete 2 tokens s.t2 s.t3 place less.1 s.has_place in
    let comma = mark-complete 3 tokens s.t3 s.t4 44 number.1 s.comma in
    let kind = word-complete 4 tokens s.t4 s.t5 s.vec4.0 comma.1 s.vec4.1 in
    let second_comma = mark-complete 5 tokens s.t5 s.t6 44 kind.1 s.second_comma in
    let type = word-complete 6 tokens s.t6 s.t7 s.type second_comma.1 s.has_type in
    let more = mark-complete 7 tokens s.t7 rest 62 type.1 s.more in
    let means = stack_type-complete (bytes_of file s.type) signed width s.means in
    let vec4 : bytes_eq (bytes_of file s.vec4.0) (codes "vec4") ≡ true = bytes_same _ _ s.vec4.2 in
    (less.0, rw (less.0, number.0, comma.0, kind.0, second_comma.0, type.0, more.0, means, vec4) refl, more.1)

-- the parts of an array's word
pub array-sound : (file : List ℕ) (tokens : List Spanned) (arg : Arg Name) → Begins (token.Punct 38) tokens (drop 1 tokens) → OneWord file (codes "A") (drop 1 tokens) (drop 2 tokens) → array_argument tokens ≡ Some arg → (array : Name) × (index : ℕ) × (a.Word array index ≡ arg) × IsArrayWord file tokens (drop 7 tokens) array index
unfolding array_argument
array-sound file tokens arg ampersand opens h =
    let less = bind-some (mark_at tokens 2 60) _ arg h in
    let array = bind-some (word_at tokens 3) _ arg less.2 in
    let comma = bind-some (mark_at tokens 4 44) _ arg array.2 in
    let index = bind-some (number_at tokens 5) _ arg comma.2 in
    let more = bind-some (mark_at tokens 6 62) _ arg index.2 in (
      array.0,
      index.0,
      some_inj (a.Word array.0 index.0) arg more.2,
      record {
        t1 = drop 1 tokens;
        t2 = drop 2 tokens;
        t3 = drop 3 tokens;
        t4 = drop 4 tokens;
        t5 = drop 5 tokens;
        t6 = drop 6 tokens;
        ampersand = ampersand;
        opens = opens;
        less = mark-sound 2 tokens 60 less.1;
        has_array = word-sound 3 tokens array.0 array.1;
        comma = mark-sound 4 tokens 44 comma.1;
        has_index = number-sound 5 tokens index.0 index.1;
        more = mark-sound 6 tokens 62 more.1;
      },
    )

pub array-complete : (file : List ℕ) (tokens rest : List Spanned) (array : Name) (index : ℕ) → IsArrayWord file tokens rest array index → (place_argument file tokens ≡ Some (a.Word array index)) × (drop 7 tokens ≡ rest)
unfolding place_argument array_argument
array-complete file tokens rest array index s =
    let ampersand = mark-complete 0 tokens tokens s.t1 38 refl s.ampersand in
    let word = word-complete 1 tokens s.t1 s.t2 s.opens.0 ampersand.1 s.opens.1 in
    let less = mark-complete 2 tokens s.t2 s.t3 60 word.1 s.less in
    let name = word-complete 3 tokens s.t3 s.t4 array less.1 s.has_array in
    let comma = mark-complete 4 tokens s.t4 s.t5 44 name.1 s.comma in
    let number = number-complete 5 tokens s.t5 s.t6 index comma.1 s.has_index in
    let more = mark-complete 6 tokens s.t6 rest 62 number.1 s.more in
    (rw (word.0, s.opens.2, less.0, name.0, comma.0, number.0, more.0) refl, more.1)

-- the parts of a part of an item
pub part-sound : (file : List ℕ) (tokens : List Spanned) (arg : Arg Name) → Begins (token.Punct 38) tokens (drop 1 tokens) → OneWord file (codes "PV") (drop 1 tokens) (drop 2 tokens) → part_argument tokens ≡ Some arg → (item : Name) × (base : ℕ) × (width : ℕ) × (a.Part item base width ≡ arg) × IsPart file tokens (drop 9 tokens) item base width
unfolding part_argument
part-sound file tokens arg ampersand opens h =
    let less = bind-some (mark_at tokens 2 60) _ arg h in
    let item = bind-some (word_at tokens 3) _ arg less.2 in
    let comma = bind-some (mark_at tokens 4 44) _ arg item.2 in
    let base = bind-some (number_at tokens 5) _ arg comma.2 in
    let second_comma = bind-some (mark_at tokens 6 44) _ arg base.2 in
    let width = bind-some (number_at tokens 7) _ arg second_comma.2 in
    let more = bind-some (mark_at tokens 8 62) _ arg width.2 in (
      item.0,
      base.0,
      width.0,
      some_inj (a.Part item.0 base.0 width.0) arg more.2,
      record {
        t1 = drop 1 tokens;
        t2 = drop 2 tokens;
        t3 = drop 3 tokens;
        t4 = drop 4 tokens;
        t5 = drop 5 tokens;
        t6 = drop 6 tokens;
        t7 = drop 7 tokens;
        t8 = drop 8 tokens;
        ampersand = ampersand;
        opens = opens;
        less = mark-sound 2 tokens 60 less.1;
        has_item = word-sound 3 tokens item.0 item.1;
        comma = mark-sound 4 tokens 44 comma.1;
        has_base = number-sound 5 tokens base.0 base.1;
        second_comma = mark-sound 6 tokens 44 second_comma.1;
        has_width = number-sound 7 tokens width.0 width.1;
        more = mark-sound 8 tokens 62 more.1;
      },
    )

pub part-complete : (file : List ℕ) (tokens rest : List Spanned) (item : Name) (base width : ℕ) → IsPart file tokens rest item base width → (place_argument file tokens ≡ Some (a.Part item base width)) × (drop 9 tokens ≡ rest)
unfolding place_argument part_argument
part-complete file tokens rest item base width s =
    let ampersand = mark-complete 0 tokens tokens s.t1 38 refl s.ampersand in
    let word = word-complete 1 tokens s.t1 s.t2 s.opens.0 ampersand.1 s.opens.1 in
    let less = mark-complete 2 tokens s.t2 s.t3 60 word.1 s.less in
    let name = word-complete 3 tokens s.t3 s.t4 item less.1 s.has_item in
    let comma = mark-complete 4 tokens s.t4 s.t5 44 name.1 s.comma in
    let low = number-complete 5 tokens s.t5 s.t6 base comma.1 s.has_base in
    let second_comma = mark-complete 6 tokens s.t6 s.t7 44 low.1 s.second_comma in
    let many = number-complete 7 tokens s.t7 s.t8 width second_comma.1 s.has_width in
    let more = mark-complete 8 tokens s.t8 rest 62 many.1 s.more in
    (rw (word.0, s.opens.2, less.0, name.0, comma.0, low.0, second_comma.0, many.0, more.0) refl, more.1)
