-- The header that is read is in the grammar.
use Rattle.std.proofs.Common.{◌≡◌, ℕ, suc, ◌+◌, ◌-◌, ◌<◌, ◌≤◌, ℤ, List, [], ◌∷◌, ◌++◌, length, get_or, take, drop, refl, sym, ap, ◌∙◌, subst, arith, Bool, true, false, cond, not, Option, Some, None, append_assoc, append-nil, inl, inr}
use Rattle.std.specs.Prelude.{Result, Ok, Err, All, codes, slice_get, slice_index, nat_lt, ◌==◌, ◌||◌, pos, ◌+ℤ◌}
use Rattle.std.specs.List.{flat_map, prefix_len}
use Rattle.std.specs.Char.{is_ascii_digit}
use Rattle.std.specs.Str.{bytes_eq}
use Rattle.std.specs.Str.Parse.{digits_value}
use Rattle.std.proofs.Math.Seq.{take-suc, take-length}
use Rattle.std.proofs.lemmas.Bool.{eqb-true, not-true, true≢false, false_from_ne_true}
use Rattle.std.proofs.lemmas.Bool.Decides.{nat_tests}
use Rattle.std.proofs.lemmas.List.{length-append, nil_from_length, take-append-drop}
use Rattle.std.proofs.lemmas.List.Elements.{All-append, All-cons, All-nil}
use Rattle.std.proofs.lemmas.List.Quantifiers.{position-Some}
use Rattle.std.proofs.lemmas.Option.{slice_get-get_or}
use Rattle.std.proofs.lemmas.Slice.Eq.{bytes_eq-Decides}
use Rattle.vcd_read.specs.declared.types.VcdKind.{VcdKind}
use Rattle.vcd_read.specs.declared.types.VcdKind.TheVariants.{BadWord, TooWide}
use Rattle.vcd_read.specs.declared.header.Wanted.{Wanted}
use Rattle.vcd_read.specs.declared.header.Wanted.TheVariants.{Command, Text, Close, Scale, ScaleUnit, ScopeKind, ScopeName, VarKind, VarWidth, VarCode, VarName, Start, Entry, Remark, Code}
use Rattle.vcd_read.specs.declared.header.Header.{Header}
use Rattle.vcd_read.specs.declared.body.Body.{Body}
use Rattle.vcd_read.specs.declared.reader.Reader.{Reader}
use Rattle.vcd_read.specs.Words.{is_end, is_number}
use Rattle.vcd_read.specs.Parts.{number_power, unit_power, path_of, net_of, is_remark, is_real}
use Rattle.vcd_read.specs.Grammar.{IsScale, IsScope, IsUpscope, NamesNet, IsCommand, AreCommands, AreEntries, ended}
use Rattle.vcd_read.specs.Reading.{need, beside, leave, command, scaled, unit, scale_from, scale, scope_name, var_width, declared, var_code, var_name, with_header, may_end}
use Rattle.vcd_read.proofs.WalkLemmas.{stand, walk, onto, ok-one}
use Rattle.vcd_read.proofs.BodyFound.{BodyTail, body-tail}

abbrev Words : Type 0
Words = List (List ℕ)

abbrev AreInner : Words → Type 0
AreInner words = All (λ word. is_end word ≡ false) words

nil-inner : AreInner []
nil-inner = All-nil (λ word. is_end word ≡ false)

snoc-inner : (words : Words) (word : List ℕ) → AreInner words → is_end word ≡ false → AreInner (words ++ word ∷ [])
snoc-inner words word inside one = All-append (λ word. is_end word ≡ false) words (word ∷ []) inside (All-cons (λ word. is_end word ≡ false) word [] one nil-inner)

refused : {A : Type 0} (P : Type 0) (kind : VcdKind) (x : A) → ◌≡◌ {A = Result A VcdKind} (Err kind) (Ok x) → P
refused P kind x h = absurd (cc)

text-is : (word text : List ℕ) → bytes_eq word text ≡ true → word ≡ text
text-is word text e = (bytes_eq-Decides word text).0 e

-- a word that passes a test which `$end` fails
not-end : (test : List ℕ → Bool) (word : List ℕ) → test (codes "$end") ≡ false → test word ≡ true → is_end word ≡ false
not-end test word fails passes = false_from_ne_true (is_end word) (λ ends. true≢false (sym passes ∙ ap test (text-is word (codes "$end") ends) ∙ fails))

neither : (a b : Bool) → not (a || b) ≡ true → (a ≡ false) × (b ≡ false)
neither true b h = absurd (true≢false (sym h))
neither false b h = (refl, not-true b h)

-- the words that lead from a header to the file's end
pub record FileTail (before : Header) (body : Body) (words : Words) (after : Reader) : Type 0 where
  pub commands : List Words
  pub entries : List Words
  pub header : Header
  pub last : Body
  pub spelled : words ≡ flat_map ended commands ++ (codes "$enddefinitions" ∷ codes "$end" ∷ flat_map (λ entry. entry) entries)
  pub heads : AreCommands commands before header
  pub says : AreEntries header entries body last
  pub is : after ≡ stand Entry header last

-- what has come of a command: its words so far
abbrev Partial : Wanted → Header → Header → Words → Type 0
Partial Command before now p = (p ≡ []) × (now ≡ before)
Partial Text before now p = (more : Words) → IsCommand (p ++ more) before now
Partial Close before now p = IsCommand p before now
Partial Scale before now p = (p ≡ codes "$timescale" ∷ []) × (now ≡ before)
Partial (ScaleUnit power) before now p = (number : List ℕ) × (p ≡ codes "$timescale" ∷ number ∷ []) × (number_power number ≡ Some power) × (now ≡ before)
Partial ScopeKind before now p = (p ≡ codes "$scope" ∷ []) × (now ≡ before)
Partial ScopeName before now p = (kind : List ℕ) × (p ≡ codes "$scope" ∷ kind ∷ []) × (now ≡ before)
Partial VarKind before now p = (p ≡ codes "$var" ∷ []) × (now ≡ before)
Partial VarWidth before now p = (kind : List ℕ) × (p ≡ codes "$var" ∷ kind ∷ []) × (is_real kind ≡ false) × (now ≡ before)
Partial (VarCode value) before now p = (kind : List ℕ) × (width : List ℕ) × (p ≡ codes "$var" ∷ kind ∷ width ∷ []) × (is_real kind ≡ false) × (is_number width ≡ true) × (value ≡ digits_value 10 width) × (1 ≤ digits_value 10 width) × (digits_value 10 width ≤ 128) × (now ≡ before)
Partial (VarName net) before now p = (kind : List ℕ) × (width : List ℕ) × (code : List ℕ) × (p ≡ codes "$var" ∷ kind ∷ width ∷ code ∷ []) × (is_real kind ≡ false) × (is_number width ≡ true) × (1 ≤ digits_value 10 width) × (digits_value 10 width ≤ 128) × NamesNet code (digits_value 10 width) net before now
Partial Start before now p = (p ≡ codes "$enddefinitions" ∷ []) × (now ≡ before)
Partial _ before now p = ⊥

abbrev is_some_of : {A : Type 0} → Option A → Bool
is_some_of None = false
is_some_of (Some _) = true

abbrev scaled_to : ℤ → Header → Header
scaled_to power header = record header { power = power }

abbrev opened_by : List ℕ → Header → Header
opened_by name header = record header { scopes = header.scopes ++ name ∷ [] }

abbrev with_scopes : Header → Words → Header
with_scopes header scopes = record header { scopes = scopes }

abbrev with_net : Header → List ℕ → ℕ → Header
with_net header code width = record header { nets = header.nets ++ code ∷ []; widths = header.widths ++ width ∷ [] }

abbrev AreSame : Header → Type 0
AreSame header = length header.nets ≡ length header.widths

module _ (body : Body) (after : Reader) (closed : may_end after ≡ true) where
  onto-need : (words : Words) (test : Bool) (wanted : Wanted) (next : Header) → onto (walk words) (with_header body (need test (wanted, next))) ≡ Ok after → (test ≡ true) × (walk words (stand wanted next body) ≡ Ok after)
  onto-need words true wanted next h = (refl, h)
  onto-need words false wanted next h = refused _ BadWord after h

  onto-plain : (words : Words) (test : Bool) (wanted : Wanted) (now : Header) → onto (walk words) (with_header body (beside now (need test wanted))) ≡ Ok after → (test ≡ true) × (walk words (stand wanted now body) ≡ Ok after)
  onto-plain words true wanted now h = (refl, h)
  onto-plain words false wanted now h = refused _ BadWord after h

  abbrev Again : Words → Type 0
  Again words = (wanted : Wanted) (before now : Header) (p : Words) → Partial wanted before now p → AreInner p → AreSame now → walk words (stand wanted now body) ≡ Ok after → FileTail before body (p ++ words) after

  one-more : (words rest : Words) (before middle : Header) → AreInner words → IsCommand words before middle → FileTail middle body rest after → FileTail before body (words ++ codes "$end" ∷ rest) after
  one-more words rest before middle inside first tail =
      let front : Words = flat_map ended tail.commands in
      let back : Words = codes "$enddefinitions" ∷ codes "$end" ∷ flat_map (λ entry. entry) tail.entries in
      record {
        commands = words ∷ tail.commands;
        entries = tail.entries;
        header = tail.header;
        last = tail.last;
        spelled = ap (λ ws. words ++ codes "$end" ∷ ws) tail.spelled ∙ sym (append_assoc words (codes "$end" ∷ []) (front ++ back)) ∙ sym (append_assoc (words ++ codes "$end" ∷ []) front back);
        heads = (inside, middle, first, tail.heads);
        says = tail.says;
        is = tail.is;
      }

  module _ (words : Words) (again : Again words) (word : List ℕ) (before now : Header) (p : Words) (inside : AreInner p) (same : AreSame now) where
    -- the command ends here
    ends-here : IsCommand p before now → is_end word ≡ true → walk words (stand Command now body) ≡ Ok after → FileTail before body (p ++ word ∷ words) after
    ends-here whole ends h = subst (λ w. FileTail before body (p ++ w ∷ words) after) (sym (text-is word (codes "$end") ends)) (one-more p words before now inside whole (again Command now now [] (refl, refl) nil-inner same h))

    -- or goes on
    goes-on : (wanted : Wanted) (next : Header) → Partial wanted before next (p ++ word ∷ []) → is_end word ≡ false → AreSame next → walk words (stand wanted next body) ≡ Ok after → FileTail before body (p ++ word ∷ words) after
    goes-on wanted next part solid same_next h = subst (λ ws. FileTail before body ws after) (append_assoc p (word ∷ []) words) (again wanted before next (p ++ word ∷ []) part (snoc-inner p word inside solid) same_next h)

    text-tail : Partial Text before now p → (ends : Bool) → is_end word ≡ ends → walk words (stand (cond ends Command Text) now body) ≡ Ok after → FileTail before body (p ++ word ∷ words) after
    text-tail part true ends h = ends-here (subst (λ ws. IsCommand ws before now) (append-nil p) (part [])) ends h
    text-tail part false ends h = goes-on Text now (λ more. subst (λ ws. IsCommand ws before now) (sym (append_assoc p (word ∷ []) more)) (part (word ∷ more))) ends same h

    close-tail : Partial Close before now p → onto (walk words) (with_header body (beside now (need (is_end word) Command))) ≡ Ok after → FileTail before body (p ++ word ∷ words) after
    close-tail part h = let next = onto-plain words (is_end word) Command now h in ends-here part next.0 next.1

    onward : (front : Words) → p ≡ front → p ++ word ∷ [] ≡ front ++ word ∷ []
    onward front e = ap (λ q. q ++ word ∷ []) e

    unit-tail : (power : ℕ) → Partial (ScaleUnit power) before now p → onto (walk words) (with_header body (unit now power word)) ≡ Ok after → FileTail before body (p ++ word ∷ words) after
    unfolding unit
    unit-tail power (number, e, number_is, f) h = by_unit (unit_power word) refl h
      where
        by_unit : (of_unit : Option ℤ) → unit_power word ≡ of_unit → onto (walk words) (with_header body (scaled now power of_unit)) ≡ Ok after → FileTail before body (p ++ word ∷ words) after
        by_unit None unit_is h = refused _ BadWord after h
        by_unit (Some of_unit) unit_is h =
            let next : Header = record now { power = pos power +ℤ of_unit } in
            let says : IsScale (p ++ word ∷ []) before next = record { number = number; of_unit = word; power = power; unit = of_unit; spelled = inl (onward (codes "$timescale" ∷ number ∷ []) e); number_is = number_is; unit_is = unit_is; holds = ap (scaled_to (pos power +ℤ of_unit)) f } in
            goes-on Close next (inr (inl says)) (not-end (λ w. is_some_of (unit_power w)) word refl (ap is_some_of unit_is)) same h

    scope_kind-tail : Partial ScopeKind before now p → onto (walk words) (with_header body (beside now (need (not (is_end word)) ScopeName))) ≡ Ok after → FileTail before body (p ++ word ∷ words) after
    scope_kind-tail (e, f) h =
        let next = onto-plain words (not (is_end word)) ScopeName now h in
        goes-on ScopeName now (word, onward (codes "$scope" ∷ []) e, f) (not-true (is_end word) next.0) same next.1

    scope_name-tail : Partial ScopeName before now p → onto (walk words) (with_header body (scope_name now word)) ≡ Ok after → FileTail before body (p ++ word ∷ words) after
    unfolding scope_name
    scope_name-tail (kind, e, f) h =
        let opened : Header = record now { scopes = now.scopes ++ word ∷ [] } in
        let next = onto-need words (not (is_end word)) Close opened h in
        let says : IsScope (p ++ word ∷ []) before opened = record { kind = kind; name = word; spelled = onward (codes "$scope" ∷ kind ∷ []) e; opens = ap (opened_by word) f } in
        goes-on Close opened (inr (inr (inl says))) (not-true (is_end word) next.0) same next.1

    var_kind-tail : Partial VarKind before now p → onto (walk words) (with_header body (beside now (need (not (is_end word || is_real word)) VarWidth))) ≡ Ok after → FileTail before body (p ++ word ∷ words) after
    var_kind-tail (e, f) h =
        let next = onto-plain words (not (is_end word || is_real word)) VarWidth now h in
        let both = neither (is_end word) (is_real word) next.0 in
        goes-on VarWidth now (word, onward (codes "$var" ∷ []) e, both.1, f) both.0 same next.1

    var_width-tail : Partial VarWidth before now p → onto (walk words) (with_header body (beside now (var_width word))) ≡ Ok after → FileTail before body (p ++ word ∷ words) after
    var_width-tail (kind, e, real, f) h = by_tests (is_number word) refl (nat_lt 128 (digits_value 10 word)) refl (digits_value 10 word == 0) refl h
      where
        by_tests : (a : Bool) → is_number word ≡ a → (b : Bool) → nat_lt 128 (digits_value 10 word) ≡ b → (c : Bool) → (digits_value 10 word == 0) ≡ c → onto (walk words) (with_header body (beside now (cond (not a) (Err BadWord) (cond b (Err TooWide) (need (not c) (VarCode (digits_value 10 word))))))) ≡ Ok after → FileTail before body (p ++ word ∷ words) after
        by_tests true a false b false c h =
            goes-on (VarCode (digits_value 10 word)) now (kind, word, onward (codes "$var" ∷ kind ∷ []) e, real, a, refl, grind (arith, nat_tests), grind (arith, nat_tests), f) (not-end is_number word refl a) same h
        by_tests true a false b true c h = refused _ BadWord after h
        by_tests true a true b c k h = refused _ TooWide after h
        by_tests false a b k c l h = refused _ BadWord after h

    var_code-tail : (value : ℕ) → Partial (VarCode value) before now p → onto (walk words) (with_header body (var_code now value word)) ≡ Ok after → FileTail before body (p ++ word ∷ words) after
    unfolding var_code
    var_code-tail value (kind, width, e, real, number, v, least, most, f) h = by_end (is_end word) refl h
      where
        whole : p ++ word ∷ [] ≡ codes "$var" ∷ kind ∷ width ∷ word ∷ []
        whole = onward (codes "$var" ∷ kind ∷ width ∷ []) e

        by_width : (net : ℕ) → is_end word ≡ false → net_of now.nets word ≡ Some net → (t : Bool) → (slice_index now.widths net == value) ≡ t → onto (walk words) (with_header body (need t (VarName net, now))) ≡ Ok after → FileTail before body (p ++ word ∷ words) after
        by_width net solid found true wide h =
            let within : net < length now.nets = (position-Some (bytes_eq word) now.nets net [] found).0 in
            let there : slice_get now.widths net ≡ Some (digits_value 10 width) = slice_get-get_or now.widths net 0 (omega (arith, same, within)) ∙ ap Some (eqb-true (slice_index now.widths net) value wide ∙ v) in
            let names : NamesNet word (digits_value 10 width) net before now = subst (λ b. NamesNet word (digits_value 10 width) net b now) f (record { names = inr (found, there, refl) }) in
            goes-on (VarName net) now (kind, width, word, whole, real, number, least, most, names) solid same h
        by_width net solid found false wide h = refused _ BadWord after h

        by_net : (net : Option ℕ) → is_end word ≡ false → net_of now.nets word ≡ net → onto (walk words) (with_header body (declared now value word net)) ≡ Ok after → FileTail before body (p ++ word ∷ words) after
        by_net (Some net) solid found h = by_width net solid found (slice_index now.widths net == value) refl h
        by_net None solid found h =
            let next : Header = record now { nets = now.nets ++ word ∷ []; widths = now.widths ++ value ∷ [] } in
            let same_next : length (now.nets ++ word ∷ []) ≡ length (now.widths ++ value ∷ []) = length-append now.nets (word ∷ []) ∙ ap (λ n. n + 1) same ∙ sym (length-append now.widths (value ∷ [])) in
            let names : NamesNet word (digits_value 10 width) (length now.widths) before next = subst (λ b. NamesNet word (digits_value 10 width) (length now.widths) b next) f (record { names = inl (found, refl, ap (with_net now word) v) }) in
            goes-on (VarName (length now.widths)) next (kind, width, word, whole, real, number, least, most, names) solid same_next h

        by_end : (ends : Bool) → is_end word ≡ ends → onto (walk words) (with_header body (cond ends (Err BadWord) (declared now value word (net_of now.nets word)))) ≡ Ok after → FileTail before body (p ++ word ∷ words) after
        by_end true ends h = refused _ BadWord after h
        by_end false ends h = by_net (net_of now.nets word) ends refl h

    var_name-tail : (net : ℕ) → Partial (VarName net) before now p → onto (walk words) (with_header body (var_name now net word)) ≡ Ok after → FileTail before body (p ++ word ∷ words) after
    unfolding var_name
    var_name-tail net (kind, width, code, e, real, number, least, most, names) h =
        let named : Header = record now { vars = now.vars ++ record { path = path_of now.scopes word; net = net } ∷ [] } in
        let next = onto-need words (not (is_end word)) Text named h in
        goes-on Text named (λ more. inr (inr (inr (inr (record { kind = kind; width = width; code = code; name = word; more = more; net = net; middle = now; spelled = ap (λ q. (q ++ word ∷ []) ++ more) e; has_values = real; digits = number; least = least; most = most; names = names; declares = refl }))))) (not-true (is_end word) next.0) same next.1

    start-tail : Partial Start before now p → onto (walk words) (with_header body (beside now (need (is_end word) Entry))) ≡ Ok after → FileTail before body (p ++ word ∷ words) after
    start-tail (e, f) h =
        let next = onto-plain words (is_end word) Entry now h in
        let tail : BodyTail now body words after = body-tail now after closed same words Entry body body [] (refl, refl) next.1 in
        record {
          commands = [];
          entries = tail.entries;
          header = now;
          last = tail.last;
          spelled = ap (λ q. q ++ word ∷ words) e ∙ ap (λ w. codes "$enddefinitions" ∷ w ∷ words) (text-is word (codes "$end") next.0) ∙ ap (λ ws. codes "$enddefinitions" ∷ codes "$end" ∷ ws) tail.spelled;
          heads = f;
          says = tail.says;
          is = tail.is;
        }

    scale-tail : Partial Scale before now p → onto (walk words) (with_header body (scale now word)) ≡ Ok after → FileTail before body (p ++ word ∷ words) after
    unfolding scale unit
    scale-tail (e, f) h = by_number (number_power number) refl h
      where
        digits : ℕ
        digits = prefix_len is_ascii_digit word

        number : List ℕ
        number = take digits word

        rest : List ℕ
        rest = drop digits word

        parts : number ++ rest ≡ word
        parts = take-append-drop digits word

        solid : (power : ℕ) → number_power number ≡ Some power → is_end word ≡ false
        solid power found = not-end (λ w. is_some_of (number_power (take (prefix_len is_ascii_digit w) w))) word refl (ap is_some_of found)

        by_unit : (power : ℕ) → number_power number ≡ Some power → (of_unit : Option ℤ) → unit_power rest ≡ of_unit → onto (walk words) (with_header body (scaled now power of_unit)) ≡ Ok after → FileTail before body (p ++ word ∷ words) after
        by_unit power found None unit_is h = refused _ BadWord after h
        by_unit power found (Some of_unit) unit_is h =
            let next : Header = record now { power = pos power +ℤ of_unit } in
            let says : IsScale (p ++ word ∷ []) before next = record { number = number; of_unit = rest; power = power; unit = of_unit; spelled = inr (onward (codes "$timescale" ∷ []) e ∙ ap (λ w. codes "$timescale" ∷ w ∷ []) (sym parts)); number_is = found; unit_is = unit_is; holds = ap (scaled_to (pos power +ℤ of_unit)) f } in
            goes-on Close next (inr (inl says)) (solid power found) same h

        by_rest : (power : ℕ) → number_power number ≡ Some power → (none : Bool) → (length rest == 0) ≡ none → onto (walk words) (with_header body (cond none (Ok (ScaleUnit power, now)) (scaled now power (unit_power rest)))) ≡ Ok after → FileTail before body (p ++ word ∷ words) after
        by_rest power found true none h =
            let empty : rest ≡ [] = nil_from_length rest (eqb-true (length rest) 0 none) in
            let whole : number ≡ word = sym (append-nil number) ∙ ap (λ r. number ++ r) (sym empty) ∙ parts in
            goes-on (ScaleUnit power) now (word, onward (codes "$timescale" ∷ []) e, subst (λ w. number_power w ≡ Some power) whole found, f) (solid power found) same h
        by_rest power found false none h = by_unit power found (unit_power rest) refl h

        by_number : (power : Option ℕ) → number_power number ≡ power → onto (walk words) (with_header body (scale_from now rest power)) ≡ Ok after → FileTail before body (p ++ word ∷ words) after
        by_number None found h = refused _ BadWord after h
        by_number (Some power) found h = by_rest power found (length rest == 0) refl h

    last-name : (names : Words) → (length names == 0) ≡ false → take (length names - 1) names ++ get_or names (length names - 1) [] ∷ [] ≡ names
    last-name names some =
        let inside : length names - 1 < length names = grind (arith, nat_tests) in
        let whole : suc (length names - 1) ≡ length names = omega (arith, inside) in
        sym (take-suc names (length names - 1) [] inside) ∙ ap (λ n. take n names) whole ∙ take-length names

    command-tail : Partial Command before now p → onto (walk words) (with_header body (command now word)) ≡ Ok after → FileTail before body (p ++ word ∷ words) after
    unfolding command
    command-tail (e, f) h = by_text (is_remark word) refl (bytes_eq word (codes "$timescale")) refl (bytes_eq word (codes "$scope")) refl (bytes_eq word (codes "$upscope")) refl (bytes_eq word (codes "$var")) refl h
      where
        alone : (text : List ℕ) → bytes_eq word text ≡ true → p ++ word ∷ [] ≡ text ∷ []
        alone text is = onward [] e ∙ ap (λ w. w ∷ []) (text-is word text is)

        solid : (text : List ℕ) → is_end text ≡ false → bytes_eq word text ≡ true → is_end word ≡ false
        solid text apart is = subst (λ w. is_end w ≡ false) (sym (text-is word text is)) apart

        by_last : onto (walk words) (with_header body (need (bytes_eq word (codes "$enddefinitions")) (Start, now))) ≡ Ok after → FileTail before body (p ++ word ∷ words) after
        by_last h =
            let next = onto-need words (bytes_eq word (codes "$enddefinitions")) Start now h in
            goes-on Start now (alone (codes "$enddefinitions") next.0, f) (solid (codes "$enddefinitions") refl next.0) same next.1

        by_leave : bytes_eq word (codes "$upscope") ≡ true → onto (walk words) (with_header body (leave now)) ≡ Ok after → FileTail before body (p ++ word ∷ words) after
        by_leave is h =
            let left : Header = record now { scopes = take (length now.scopes - 1) now.scopes } in
            let next = onto-need words (not (length now.scopes == 0)) Close left h in
            let names = last-name now.scopes (not-true (length now.scopes == 0) next.0) in
            let says : IsUpscope (p ++ word ∷ []) before left = record { innermost = get_or now.scopes (length now.scopes - 1) []; spelled = alone (codes "$upscope") is; closes = sym f ∙ ap (with_scopes now) (sym names) } in
            goes-on Close left (inr (inr (inr (inl says)))) (solid (codes "$upscope") refl is) same next.1

        by_text : (a : Bool) → is_remark word ≡ a → (b : Bool) → bytes_eq word (codes "$timescale") ≡ b → (c : Bool) → bytes_eq word (codes "$scope") ≡ c → (d : Bool) → bytes_eq word (codes "$upscope") ≡ d → (v : Bool) → bytes_eq word (codes "$var") ≡ v → onto (walk words) (with_header body (cond a (Ok (Text, now)) (cond b (Ok (Scale, now)) (cond c (Ok (ScopeKind, now)) (cond d (leave now) (cond v (Ok (VarKind, now)) (need (bytes_eq word (codes "$enddefinitions")) (Start, now)))))))) ≡ Ok after → FileTail before body (p ++ word ∷ words) after
        by_text true a b k c l d m v n h = goes-on Text now (λ more. inl (record { command = word; more = more; spelled = ap (λ q. (q ++ word ∷ []) ++ more) e; begins = a; same = f })) (not-end is_remark word refl a) same h
        by_text false a true k c l d m v n h = goes-on Scale now (alone (codes "$timescale") k, f) (solid (codes "$timescale") refl k) same h
        by_text false a false k true l d m v n h = goes-on ScopeKind now (alone (codes "$scope") l, f) (solid (codes "$scope") refl l) same h
        by_text false a false k false l true m v n h = by_leave m h
        by_text false a false k false l false m true n h = goes-on VarKind now (alone (codes "$var") n, f) (solid (codes "$var") refl n) same h
        by_text false a false k false l false m false n h = by_last h

  no-end : (P : Type 0) (wanted : Wanted) (now : Header) → may_end (stand wanted now body) ≡ false → ◌≡◌ {A = Result Reader VcdKind} (Ok (stand wanted now body)) (Ok after) → P
  no-end P wanted now open_still h = absurd (true≢false (sym closed ∙ ap may_end (sym (ok-one (stand wanted now body) after h)) ∙ open_still))

  pub header-tail : (words : Words) (wanted : Wanted) (before now : Header) (p : Words) → Partial wanted before now p → AreInner p → AreSame now → walk words (stand wanted now body) ≡ Ok after → FileTail before body (p ++ words) after
  header-tail [] Entry before now p part inside same h = absurd part
  header-tail [] Remark before now p part inside same h = absurd part
  header-tail [] (Code value) before now p part inside same h = absurd part
  header-tail [] wanted before now p part inside same h = no-end _ wanted now refl h
  header-tail (word ∷ words) Command before now p part inside same h = command-tail words (header-tail words) word before now p inside same part h
  header-tail (word ∷ words) Text before now p part inside same h = text-tail words (header-tail words) word before now p inside same part (is_end word) refl h
  header-tail (word ∷ words) Close before now p part inside same h = close-tail words (header-tail words) word before now p inside same part h
  header-tail (word ∷ words) Scale before now p part inside same h = scale-tail words (header-tail words) word before now p inside same part h
  header-tail (word ∷ words) (ScaleUnit power) before now p part inside same h = unit-tail words (header-tail words) word before now p inside same power part h
  header-tail (word ∷ words) ScopeKind before now p part inside same h = scope_kind-tail words (header-tail words) word before now p inside same part h
  header-tail (word ∷ words) ScopeName before now p part inside same h = scope_name-tail words (header-tail words) word before now p inside same part h
  header-tail (word ∷ words) VarKind before now p part inside same h = var_kind-tail words (header-tail words) word before now p inside same part h
  header-tail (word ∷ words) VarWidth before now p part inside same h = var_width-tail words (header-tail words) word before now p inside same part h
  header-tail (word ∷ words) (VarCode value) before now p part inside same h = var_code-tail words (header-tail words) word before now p inside same value part h
  header-tail (word ∷ words) (VarName net) before now p part inside same h = var_name-tail words (header-tail words) word before now p inside same net part h
  header-tail (word ∷ words) Start before now p part inside same h = start-tail words (header-tail words) word before now p inside same part h
  header-tail (word ∷ words) Entry before now p part inside same h = absurd part
  header-tail (word ∷ words) Remark before now p part inside same h = absurd part
  header-tail (word ∷ words) (Code value) before now p part inside same h = absurd part
