-- What holds of a reader between two words, holds after the next one.
use Rattle.std.proofs.Common.{◌≡◌, ℕ, suc, ◌+◌, ◌-◌, ◌<◌, ◌≤◌, ℤ, List, [], ◌∷◌, ◌++◌, length, refl, sym, ap, ◌∙◌, subst, arith, Bool, true, false, cond, not, Option, Some, None}
use Rattle.std.specs.Prelude.{Result, Ok, Err, IfOk, All, IfSome, slice_get, slice_index, nat_le, nat_lt, ◌==◌, ◌&&◌, ◌||◌, ◌^◌, codes, take, drop, pos, ◌+ℤ◌}
use Rattle.std.specs.List.{prefix_len, list_all}
use Rattle.std.specs.Char.{is_ascii_digit}
use Rattle.vvp_lex.specs.Token.{is_bit}
use Rattle.std.specs.Str.{bytes_eq}
use Rattle.std.specs.Str.Parse.{digits_value}
use Rattle.std.proofs.lemmas.Bool.{eqb-true}
use Rattle.std.proofs.lemmas.Bool.Decides.{nat_tests}
use Rattle.std.proofs.lemmas.List.{length-replicate, length-append, get_or_append_left}
use Rattle.std.proofs.lemmas.List.Elements.{All-append, All-cons, All-nil, All-weaker}
use Rattle.std.proofs.lemmas.List.Quantifiers.{position-Some}
use Rattle.std.proofs.lemmas.Option.{slice_get_within, slice_get-get_or, get_or_from_slice_get}
use Rattle.four_state.specs.declared.bits.Bit.{Bit}
use Rattle.vcd_read.specs.declared.types.VcdVar.{VcdVar}
use Rattle.vcd_read.specs.declared.types.VcdKind.{VcdKind}
use Rattle.vcd_read.specs.declared.types.VcdKind.TheVariants.{OpenEnd}
use Rattle.vcd_read.specs.declared.types.Trace.{Trace}
use Rattle.vcd_read.specs.declared.types.VcdFault.{VcdFault}
use Rattle.vcd_read.specs.declared.header.Wanted.{Wanted}
use Rattle.vcd_read.specs.declared.header.Wanted.TheVariants.{Command, Text, Close, Scale, ScaleUnit, ScopeKind, ScopeName, VarKind, VarWidth, VarCode, VarName, Start, Entry, Remark, Code}
use Rattle.vcd_read.specs.declared.header.Header.{Header}
use Rattle.vcd_read.specs.declared.body.Body.{Body}
use Rattle.vcd_read.specs.declared.reader.Reader.{Reader}
use Rattle.vcd_read.specs.Words.{is_word, is_end, is_number}
use Rattle.vvp_lex.specs.Vector.{bit_of}
use Rattle.vcd_read.specs.Parts.{number_power, unit_power, path_of, net_of, extended, is_section, is_remark, is_real}
use Rattle.vcd_read.specs.Reading.{Next, need, beside, var_width, plain, command, scaled, unit, scale_from, scale, scope_name, declared, var_code, var_name, changed, time, given, scalar, vector, bits, section, entry, with_header, with_body, taken, step, start, finish, may_end, Fault, Reads}
use Rattle.vcd_read.specs.Sound.{IsTrace, IsRight, IsSound}

-- ---- what holds of each outcome
need-keeps : {A : Type 0} (P : A → Type 0) (test : Bool) (x : A) → (test ≡ true → P x) → IfOk (need test x) P
need-keeps P true x h = h refl
need-keeps P false x h = tt

cond-keeps : {A : Type 0} (P : A → Type 0) (test : Bool) (x y : Result A VcdKind) → IfOk x P → IfOk y P → IfOk (cond test x y) P
cond-keeps P true x y h k = h
cond-keeps P false x y h k = k

-- the same, where the second outcome knows that the test failed
else-keeps : {A : Type 0} (P : A → Type 0) (test : Bool) (x y : Result A VcdKind) → IfOk x P → (test ≡ false → IfOk y P) → IfOk (cond test x y) P
else-keeps P true x y h k = h
else-keeps P false x y h k = k refl

-- ---- lists that grow
snoc-keeps : {X : Type 0} (P : X → Type 0) (xs : List X) (x : X) → All P xs → P x → All P (xs ++ x ∷ [])
snoc-keeps P xs x all one = All-append P xs (x ∷ []) all (All-cons P x [] one (All-nil P))

slice_get-more : {X : Type 0} (xs ys : List X) (i : ℕ) (x : X) → slice_get xs i ≡ Some x → slice_get (xs ++ ys) i ≡ Some x
slice_get-more xs ys i x found =
    let within : i < length xs = slice_get_within xs i x found in
    slice_get-get_or (xs ++ ys) i x (omega (arith, length-append xs ys)) ∙ ap Some (get_or_append_left xs ys x i within ∙ get_or_from_slice_get xs i x x found)

net-within : (nets : List (List ℕ)) (code : List ℕ) (net : ℕ) → net_of nets code ≡ Some net → net < length nets
net-within nets code net found = (position-Some (bytes_eq code) nets net [] found).0

length-extended : (value : List Bit) (width : ℕ) → length value ≤ width → length (extended value width) ≡ width
unfolding extended
length-extended value width fits = length-append value _ ∙ ap (λ m. length value + m) (length-replicate (width - length value) _) ∙ omega arith

-- ---- each word
module _ (n : ℕ) where
  -- what is known stays as it is
  stays : (reader : Reader) (wanted : Wanted) → IsSound n reader → IsRight wanted reader.header.widths → IsSound (suc n) (record { wanted = wanted; header = reader.header; body = reader.body })
  stays reader wanted sound right = record {
    wanted = right;
    same = sound.same;
    few_nets = omega (arith, sound.few_nets);
    few_vars = omega (arith, sound.few_vars);
    of_nets = sound.of_nets;
  }

  module _ (old : Wanted) (header : Header) (body : Body) (sound : IsSound n (record { wanted = old; header = header; body = body })) where
    abbrev here : Reader
    here = record { wanted = old; header = header; body = body }

    -- a header and what is wanted next, beside this body
    abbrev IsNext : Wanted × Header → Type 0
    IsNext next = IsSound (suc n) (record { wanted = next.0; header = next.1; body = body })

    abbrev IsNextBody : Wanted × Body → Type 0
    IsNextBody next = IsSound (suc n) (record { wanted = next.0; header = header; body = next.1 })

    kept : (wanted : Wanted) → IsRight wanted header.widths → IsNext (wanted, header)
    kept wanted right = stays here wanted sound right

    from_header : (next : Next Header) → IfOk next IsNext → IfOk (with_header body next) (IsSound (suc n))
    from_header (Ok next) h = h
    from_header (Err kind) h = tt

    from_body : (next : Next Body) → IfOk next IsNextBody → IfOk (with_body header next) (IsSound (suc n))
    from_body (Ok next) h = h
    from_body (Err kind) h = tt

    beside-keeps : (next : Result Wanted VcdKind) → IfOk next (λ wanted. IsRight wanted header.widths) → IfOk (beside header next) IsNext
    beside-keeps (Ok wanted) h = kept wanted h
    beside-keeps (Err kind) h = tt

    beside_body-keeps : (next : Result Wanted VcdKind) → IfOk next (λ wanted. IsRight wanted header.widths) → IfOk (beside body next) IsNextBody
    beside_body-keeps (Ok wanted) h = kept wanted h
    beside_body-keeps (Err kind) h = tt

    -- the same nets and variables
    same_nets : (wanted : Wanted) (power : ℤ) (scopes : List (List ℕ)) → IsRight wanted header.widths → IsNext (wanted, record { power = power; scopes = scopes; nets = header.nets; widths = header.widths; vars = header.vars })
    same_nets wanted power scopes right = record {
      wanted = right;
      same = sound.same;
      few_nets = omega (arith, sound.few_nets);
      few_vars = omega (arith, sound.few_vars);
      of_nets = sound.of_nets;
    }

    abbrev Right : Wanted → Type 0
    Right wanted = IsRight wanted header.widths

    width-right : (word : List ℕ) → IfOk (var_width word) Right
    width-right word =
        cond-keeps Right (not (is_number word)) _ _ tt
        (else-keeps Right (nat_lt 128 (digits_value 10 word)) _ _ tt (λ narrow.
        need-keeps Right (not (digits_value 10 word == 0)) (VarCode (digits_value 10 word)) (λ some. (grind (arith, nat_tests), grind (arith, nat_tests)))))

    plain-right : (wanted : Wanted) (word : List ℕ) → IfOk (plain wanted word) Right
    plain-right Text word = end_right (is_end word)
      where
        end_right : (ends : Bool) → Right (cond ends Command Text)
        end_right true = tt
        end_right false = tt
    plain-right Close word = need-keeps Right (is_end word) Command (λ _. tt)
    plain-right ScopeKind word = need-keeps Right (not (is_end word)) ScopeName (λ _. tt)
    plain-right VarKind word = need-keeps Right (not (is_end word || is_real word)) VarWidth (λ _. tt)
    plain-right VarWidth word = width-right word
    plain-right Start word = need-keeps Right (is_end word) Entry (λ _. tt)
    plain-right Remark word = end_right (is_end word)
      where
        end_right : (ends : Bool) → Right (cond ends Entry Remark)
        end_right true = tt
        end_right false = tt
    plain-right Command word = tt
    plain-right Scale word = tt
    plain-right (ScaleUnit power) word = tt
    plain-right ScopeName word = tt
    plain-right (VarCode width) word = tt
    plain-right (VarName net) word = tt
    plain-right Entry word = tt
    plain-right (Code value) word = tt

    command-keeps : (word : List ℕ) → IfOk (command header word) IsNext
    unfolding command
    command-keeps word =
        cond-keeps IsNext (is_remark word) _ _ (kept Text tt)
        (cond-keeps IsNext (bytes_eq word (codes "$timescale")) _ _ (kept Scale tt)
        (cond-keeps IsNext (bytes_eq word (codes "$scope")) _ _ (kept ScopeKind tt)
        (cond-keeps IsNext (bytes_eq word (codes "$upscope")) _ _ (need-keeps IsNext (not (length header.scopes == 0)) _ (λ _. same_nets Close header.power (take (length header.scopes - 1) header.scopes) tt))
        (cond-keeps IsNext (bytes_eq word (codes "$var")) _ _ (kept VarKind tt)
        (need-keeps IsNext (bytes_eq word (codes "$enddefinitions")) _ (λ _. kept Start tt))))))

    scaled-keeps : (power : ℕ) (of_unit : Option ℤ) → IfOk (scaled header power of_unit) IsNext
    scaled-keeps power None = tt
    scaled-keeps power (Some of_unit) = same_nets Close (pos power +ℤ of_unit) header.scopes tt

    unit-keeps : (power : ℕ) (word : List ℕ) → IfOk (unit header power word) IsNext
    unfolding unit
    unit-keeps power word = scaled-keeps power (unit_power word)

    scale-keeps : (word : List ℕ) → IfOk (scale header word) IsNext
    unfolding scale
    scale-keeps word = from_number (drop (prefix_len is_ascii_digit word) word) (number_power (take (prefix_len is_ascii_digit word) word)) (small (take (prefix_len is_ascii_digit word) word))
      where
        small : (number : List ℕ) → IfSome (number_power number) (λ power. power ≤ 2)
        small number = if_small (bytes_eq number (codes "1")) (bytes_eq number (codes "10")) (bytes_eq number (codes "100"))
          where
            if_small : (one ten hundred : Bool) → IfSome (cond one (Some 0) (cond ten (Some 1) (cond hundred (Some 2) None))) (λ power. power ≤ 2)
            if_small true ten hundred = omega arith
            if_small false true hundred = omega arith
            if_small false false true = omega arith
            if_small false false false = tt

        from_number : (rest : List ℕ) (power : Option ℕ) → IfSome power (λ p. p ≤ 2) → IfOk (scale_from header rest power) IsNext
        from_number rest None h = tt
        from_number rest (Some power) h = cond-keeps IsNext (length rest == 0) _ _ (kept (ScaleUnit power) h) (unit-keeps power rest)

    scope_name-keeps : (word : List ℕ) → IfOk (scope_name header word) IsNext
    unfolding scope_name
    scope_name-keeps word = need-keeps IsNext (not (is_end word)) _ (λ _. same_nets Close header.power (header.scopes ++ word ∷ []) tt)

    declared-keeps : (width : ℕ) (code : List ℕ) (net : Option ℕ) → (1 ≤ width) × (width ≤ 128) → net_of header.nets code ≡ net → IfOk (declared header width code net) IsNext
    declared-keeps width code (Some net) right found =
        need-keeps IsNext (slice_index header.widths net == width) _ (λ _. kept (VarName net) (omega (arith, sound.same, net-within header.nets code net found)))
    declared-keeps width code None right found =
        let more : length (header.widths ++ width ∷ []) ≡ suc (length header.widths) = length-append header.widths (width ∷ []) ∙ omega arith in
        let nets : length (header.nets ++ code ∷ []) ≡ suc (length header.nets) = length-append header.nets (code ∷ []) ∙ omega arith in
        let of_nets = sound.of_nets in
        record {
          wanted = omega (arith, more);
          same = nets ∙ ap suc sound.same ∙ sym more;
          few_nets = omega (arith, more, sound.few_nets);
          few_vars = omega (arith, sound.few_vars);
          of_nets = record {
            least = snoc-keeps (λ width. 1 ≤ width) header.widths width of_nets.least right.0;
            most = snoc-keeps (λ width. width ≤ 128) header.widths width of_nets.most right.1;
            named = All-weaker (λ var. var.net < length header.widths) (λ var. var.net < length (header.widths ++ width ∷ [])) (λ var below. omega (arith, more, below)) header.vars of_nets.named;
            as_wide = All-weaker (λ change. slice_get header.widths change.net ≡ Some (length change.value)) (λ change. slice_get (header.widths ++ width ∷ []) change.net ≡ Some (length change.value)) (λ change wide. slice_get-more header.widths (width ∷ []) change.net _ wide) body.changes of_nets.as_wide;
          };
        }

    var_code-keeps : (width : ℕ) (word : List ℕ) → (1 ≤ width) × (width ≤ 128) → IfOk (var_code header width word) IsNext
    unfolding var_code
    var_code-keeps width word right = cond-keeps IsNext (is_end word) _ _ tt (declared-keeps width word (net_of header.nets word) right refl)

    var_name-keeps : (net : ℕ) (word : List ℕ) → net < length header.widths → IfOk (var_name header net word) IsNext
    unfolding var_name
    var_name-keeps net word below = need-keeps IsNext (not (is_end word)) _ (λ _.
        let var : VcdVar = record { path = path_of header.scopes word; net = net } in
        let more : length (header.vars ++ var ∷ []) ≡ suc (length header.vars) = length-append header.vars (var ∷ []) ∙ omega arith in
        record {
          wanted = tt;
          same = sound.same;
          few_nets = omega (arith, sound.few_nets);
          few_vars = omega (arith, more, sound.few_vars);
          of_nets = record {
            least = sound.of_nets.least;
            most = sound.of_nets.most;
            named = snoc-keeps (λ var. var.net < length header.widths) header.vars var sound.of_nets.named below;
            as_wide = sound.of_nets.as_wide;
          };
        })

    -- ---- the body
    same_body : (wanted : Wanted) (time : ℕ) (is_open : Bool) → Right wanted → IsNextBody (wanted, record { time = time; is_open = is_open; changes = body.changes })
    same_body wanted time is_open right = record {
      wanted = right;
      same = sound.same;
      few_nets = omega (arith, sound.few_nets);
      few_vars = omega (arith, sound.few_vars);
      of_nets = sound.of_nets;
    }

    changed-keeps : (net : ℕ) (value : List Bit) → slice_get header.widths net ≡ Some (length value) → IsNextBody (Entry, changed body net value)
    changed-keeps net value wide = record {
      wanted = tt;
      same = sound.same;
      few_nets = omega (arith, sound.few_nets);
      few_vars = omega (arith, sound.few_vars);
      of_nets = record {
        least = sound.of_nets.least;
        most = sound.of_nets.most;
        named = sound.of_nets.named;
        as_wide = snoc-keeps (λ change. slice_get header.widths change.net ≡ Some (length change.value)) body.changes (record { time = body.time; net = net; value = value }) sound.of_nets.as_wide wide;
      };
    }

    given-keeps : (code : List ℕ) (fits : ℕ → Bool) (value : ℕ → List Bit) (net : Option ℕ) → net_of header.nets code ≡ net → ((width : ℕ) → fits width ≡ true → length (value width) ≡ width) → IfOk (given body header.widths fits value net) IsNextBody
    given-keeps code fits value None found wide = tt
    given-keeps code fits value (Some net) found wide = need-keeps IsNextBody (fits (slice_index header.widths net)) _ (λ fit.
        let within : net < length header.widths = omega (arith, sound.same, net-within header.nets code net found) in
        changed-keeps net _ (slice_get-get_or header.widths net 0 within ∙ ap Some (sym (wide (slice_index header.widths net) fit))))

    scalar-keeps : (byte : ℕ) (code : List ℕ) → IfOk (scalar header body byte code) IsNextBody
    unfolding scalar
    scalar-keeps byte code = cond-keeps IsNextBody (length code == 0) _ _ tt (given-keeps code (λ width. width == 1) (λ width. bit_of byte ∷ []) (net_of header.nets code) refl (λ width one. sym (eqb-true width 1 one)))

    vector-keeps : (value : List Bit) (code : List ℕ) → IfOk (vector header body value code) IsNextBody
    unfolding vector
    vector-keeps value code = given-keeps code (λ width. nat_le (length value) width) (λ width. extended value width) (net_of header.nets code) refl (λ width fits. length-extended value width (grind (arith, nat_tests)))

    time-keeps : (digits : List ℕ) → IfOk (time body digits) IsNextBody
    unfolding time
    time-keeps digits =
        cond-keeps IsNextBody (not (is_number digits && nat_lt (digits_value 10 digits) (2 ^ 64))) _ _ tt
        (cond-keeps IsNextBody (nat_lt (digits_value 10 digits) body.time) _ _ tt (same_body Entry (digits_value 10 digits) body.is_open tt))

    section-keeps : (word : List ℕ) → IfOk (section body word) IsNextBody
    unfolding section
    section-keeps word =
        cond-keeps IsNextBody (is_end word) _ _ (need-keeps IsNextBody body.is_open _ (λ _. same_body Entry body.time false tt))
        (need-keeps IsNextBody (not body.is_open) _ (λ _. same_body Entry body.time true tt))

    bits-right : (word : List ℕ) → IfOk (bits word) Right
    unfolding bits
    bits-right word = need-keeps Right (not (length word == 0 || nat_lt 128 (length word) || not (list_all is_bit word))) _ (λ _. tt)

    entry-keeps : (word : List ℕ) → IfOk (entry header body word) IsNextBody
    unfolding entry
    entry-keeps word =
        cond-keeps IsNextBody (slice_index word 0 == 35) _ _ (time-keeps (drop 1 word))
        (cond-keeps IsNextBody (is_section word || is_end word) _ _ (section-keeps word)
        (cond-keeps IsNextBody (bytes_eq word (codes "$comment")) _ _ (same_body Remark body.time body.is_open tt)
        (cond-keeps IsNextBody (is_bit (slice_index word 0)) _ _ (scalar-keeps (slice_index word 0) (drop 1 word))
        (cond-keeps IsNextBody (slice_index word 0 == 98 || slice_index word 0 == 66) _ _ (beside_body-keeps (bits (drop 1 word)) (bits-right (drop 1 word))) tt))))

    plain-keeps : (wanted : Wanted) (word : List ℕ) → IfOk (with_header body (beside header (plain wanted word))) (IsSound (suc n))
    plain-keeps wanted word = from_header _ (beside-keeps _ (plain-right wanted word))

  taken-keeps : (wanted : Wanted) (header : Header) (body : Body) (word : List ℕ) → IsSound n (record { wanted = wanted; header = header; body = body }) → IfOk (taken wanted header body word) (IsSound (suc n))
  taken-keeps Command header body word sound = from_header Command header body sound _ (command-keeps Command header body sound word)
  taken-keeps Scale header body word sound = from_header Scale header body sound _ (scale-keeps Scale header body sound word)
  taken-keeps (ScaleUnit power) header body word sound = from_header (ScaleUnit power) header body sound _ (unit-keeps (ScaleUnit power) header body sound power word)
  taken-keeps ScopeName header body word sound = from_header ScopeName header body sound _ (scope_name-keeps ScopeName header body sound word)
  taken-keeps (VarCode width) header body word sound = from_header (VarCode width) header body sound _ (var_code-keeps (VarCode width) header body sound width word sound.wanted)
  taken-keeps (VarName net) header body word sound = from_header (VarName net) header body sound _ (var_name-keeps (VarName net) header body sound net word sound.wanted)
  taken-keeps Entry header body word sound = from_body Entry header body sound _ (entry-keeps Entry header body sound word)
  taken-keeps (Code value) header body word sound = from_body (Code value) header body sound _ (vector-keeps (Code value) header body sound value word)
  taken-keeps Text header body word sound = plain-keeps Text header body sound Text word
  taken-keeps Close header body word sound = plain-keeps Close header body sound Close word
  taken-keeps ScopeKind header body word sound = plain-keeps ScopeKind header body sound ScopeKind word
  taken-keeps VarKind header body word sound = plain-keeps VarKind header body sound VarKind word
  taken-keeps VarWidth header body word sound = plain-keeps VarWidth header body sound VarWidth word
  taken-keeps Start header body word sound = plain-keeps Start header body sound Start word
  taken-keeps Remark header body word sound = plain-keeps Remark header body sound Remark word

  pub step-keeps : (reader : Reader) (word : List ℕ) → IsSound n reader → IfOk (step reader word) (IsSound (suc n))
  unfolding step
  step-keeps reader word sound = cond-keeps (IsSound (suc n)) (is_word word) _ _ (taken-keeps reader.wanted reader.header reader.body word sound) tt

-- at the start
pub sound-start : (n : ℕ) → IsSound n start
sound-start n = record {
  wanted = tt;
  same = refl;
  few_nets = omega arith;
  few_vars = omega arith;
  of_nets = record { least = All-nil _; most = All-nil _; named = All-nil _; as_wide = All-nil _ };
}

-- more words may have come
pub sound-later : (m n : ℕ) (reader : Reader) → m ≤ n → IsSound m reader → IsSound n reader
sound-later m n reader more sound = record {
  wanted = sound.wanted;
  same = sound.same;
  few_nets = omega (arith, sound.few_nets);
  few_vars = omega (arith, sound.few_vars);
  of_nets = sound.of_nets;
}

-- at the end
pub finish-trace : (m n : ℕ) (reader : Reader) (last : ℕ) (found : Result Trace VcdFault) → m ≤ n → IsSound m reader → Reads found (finish reader last) → IfOk found (IsTrace n)
unfolding finish
finish-trace m n reader last (Err error) more sound h = tt
finish-trace m n reader last (Ok trace) more sound h = by_end (may_end reader) h
  where
    whole : Trace
    whole = record { power = reader.header.power; widths = reader.header.widths; vars = reader.header.vars; changes = reader.body.changes }

    is : IsTrace n whole
    is = record { few_vars = omega (arith, sound.few_vars); of_nets = sound.of_nets }

    value_or : Trace → Result Trace Fault → Trace
    value_or other (Ok value) = value
    value_or other (Err error) = other

    by_end : (ends : Bool) → ◌≡◌ {A = Result Trace Fault} (cond ends (Ok whole) (Err (record { line = last; kind = OpenEnd }))) (Ok trace) → IsTrace n trace
    by_end true h = subst (IsTrace n) (ap (value_or whole) h) is
    by_end false h = absurd (cc)
