-- The commands of a header that are in the grammar are read.
use Rattle.std.proofs.Common.{◌≡◌, ℕ, ◌+◌, ◌-◌, ◌≤◌, ℤ, List, [], ◌∷◌, ◌++◌, length, refl, sym, ap, ◌∙◌, subst, arith, Bool, true, false, cond, Option, Some, None, append_assoc, inl, inr}
use Rattle.std.specs.Prelude.{Ok, All, codes, slice_get, slice_index, nat_lt, ◌==◌, ◌⊎◌, pos, ◌+ℤ◌}
use Rattle.std.specs.List.{flat_map, prefix_len}
use Rattle.std.specs.Char.{is_ascii_digit}
use Rattle.std.specs.Str.{bytes_eq}
use Rattle.std.specs.Str.Parse.{digits_value}
use Rattle.std.proofs.Math.Seq.{take-append_seam}
use Rattle.std.proofs.lemmas.Bool.Decides.{nat_tests}
use Rattle.std.proofs.lemmas.List.{length-append}
use Rattle.std.proofs.lemmas.List.Elements.{All-head, All-tail}
use Rattle.std.proofs.lemmas.Option.{get_or_from_slice_get}
use Rattle.std.proofs.lemmas.Slice.Eq.{bytes_eq-Decides}
use Rattle.vcd_read.specs.declared.header.Wanted.{Wanted}
use Rattle.vcd_read.specs.declared.header.Wanted.TheVariants.{Command, Text, Close, Scale, ScaleUnit, ScopeKind, ScopeName, VarKind, VarWidth, VarCode, VarName, Start, Entry}
use Rattle.vcd_read.specs.declared.header.Header.{Header}
use Rattle.vcd_read.specs.declared.body.Body.{Body}
use Rattle.vcd_read.specs.Words.{is_end, is_number}
use Rattle.vcd_read.specs.Parts.{number_power, unit_power, path_of, net_of, is_remark}
use Rattle.vcd_read.specs.Grammar.{IsRemark, IsScale, IsScope, IsUpscope, NamesNet, IsVar, IsCommand, AreCommands, ended}
use Rattle.vcd_read.specs.Reading.{beside, command, unit, scale, scope_name, var_width, var_code, var_name, with_header, taken}
use Rattle.vcd_read.proofs.WalkLemmas.{stand, walk, goes-to}

abbrev Words : Type 0
Words = List (List ℕ)

abbrev AreInner : Words → Type 0
AreInner words = All (λ word. is_end word ≡ false) words

head-inner : (word : List ℕ) (words : Words) → AreInner (word ∷ words) → is_end word ≡ false
head-inner word words inside = All-head (λ word. is_end word ≡ false) word words inside

tail-inner : (word : List ℕ) (words : Words) → AreInner (word ∷ words) → AreInner words
tail-inner word words inside = All-tail (λ word. is_end word ≡ false) word words inside

-- ---- time scales
number-is : (P : List ℕ → ℕ → Type 0) → P (codes "1") 0 → P (codes "10") 1 → P (codes "100") 2 → (number : List ℕ) (power : ℕ) → number_power number ≡ Some power → P number power
number-is P one ten hundred number power h = by_text (bytes_eq number (codes "1")) refl (bytes_eq number (codes "10")) refl (bytes_eq number (codes "100")) refl h
  where
    some-one : (x y : ℕ) → ◌≡◌ {A = Option ℕ} (Some x) (Some y) → x ≡ y
    some-one x y e = cc

    is : (text : List ℕ) (n : ℕ) → P text n → bytes_eq number text ≡ true → ◌≡◌ {A = Option ℕ} (Some n) (Some power) → P number power
    is text n p e f = subst (λ m. P number m) (some-one n power f) (subst (λ w. P w n) (sym ((bytes_eq-Decides number text).0 e)) p)

    by_text : (a : Bool) → bytes_eq number (codes "1") ≡ a → (b : Bool) → bytes_eq number (codes "10") ≡ b → (c : Bool) → bytes_eq number (codes "100") ≡ c → cond a (Some 0) (cond b (Some 1) (cond c (Some 2) None)) ≡ Some power → P number power
    by_text true e b f c g h = is (codes "1") 0 one e h
    by_text false e true f c g h = is (codes "10") 1 ten f h
    by_text false e false f true g h = is (codes "100") 2 hundred g h
    by_text false e false f false g h = absurd (cc)

abbrev Apart : List ℕ → Type 0
Apart w = (prefix_len is_ascii_digit w ≡ 0) × ((length w == 0) ≡ false)

-- a unit begins with no digit
unit-first : (word : List ℕ) (power : ℤ) → unit_power word ≡ Some power → (prefix_len is_ascii_digit word ≡ 0) × ((length word == 0) ≡ false)
unit-first word power h = by_text (bytes_eq word (codes "s")) refl (bytes_eq word (codes "ms")) refl (bytes_eq word (codes "us")) refl (bytes_eq word (codes "ns")) refl (bytes_eq word (codes "ps")) refl (bytes_eq word (codes "fs")) refl h
  where
    is : (text : List ℕ) → Apart text → bytes_eq word text ≡ true → Apart word
    is text p e = subst Apart (sym ((bytes_eq-Decides word text).0 e)) p

    by_text : (a : Bool) → bytes_eq word (codes "s") ≡ a → (b : Bool) → bytes_eq word (codes "ms") ≡ b → (c : Bool) → bytes_eq word (codes "us") ≡ c → (d : Bool) → bytes_eq word (codes "ns") ≡ d → (e : Bool) → bytes_eq word (codes "ps") ≡ e → (f : Bool) → bytes_eq word (codes "fs") ≡ f → unit_power word ≡ Some power → Apart word
    by_text true p b q c r d s e t f u h = is (codes "s") (refl, refl) p
    by_text false p true q c r d s e t f u h = is (codes "ms") (refl, refl) q
    by_text false p false q true r d s e t f u h = is (codes "us") (refl, refl) r
    by_text false p false q false r true s e t f u h = is (codes "ns") (refl, refl) s
    by_text false p false q false r false s true t f u h = is (codes "ps") (refl, refl) t
    by_text false p false q false r false s false t true u h = is (codes "fs") (refl, refl) u
    by_text false p false q false r false s false t false u h =
        let none : unit_power word ≡ None = rw (p, q, r, s, t, u) refl in
        let both : ◌≡◌ {A = Option ℤ} None (Some power) = sym none ∙ h in
        absurd (cc)

abbrev scaled_by : Header → ℤ → Header
scaled_by header power = record header { power = power }

unit-ok : (header : Header) (power : ℕ) (word : List ℕ) (of_unit : ℤ) → unit_power word ≡ Some of_unit → unit header power word ≡ Ok (Close, scaled_by header (pos power +ℤ of_unit))
unfolding unit
unit-ok header power word of_unit h = rw h refl

number-ok : (header : Header) (number : List ℕ) (power : ℕ) → number_power number ≡ Some power → scale header number ≡ Ok (ScaleUnit power, header)
unfolding scale
number-ok header number power h = number-is (λ number power. scale header number ≡ Ok (ScaleUnit power, header)) refl refl refl number power h

both-ok : (header : Header) (number word : List ℕ) (power : ℕ) (of_unit : ℤ) → number_power number ≡ Some power → unit_power word ≡ Some of_unit → scale header (number ++ word) ≡ Ok (Close, scaled_by header (pos power +ℤ of_unit))
unfolding scale
both-ok header number word power of_unit h k =
    let apart = unit-first word of_unit k in
    let one : scale header (codes "1" ++ word) ≡ unit header 0 word = rw (apart.0, apart.1) refl in
    let ten : scale header (codes "10" ++ word) ≡ unit header 1 word = rw (apart.0, apart.1) refl in
    let hundred : scale header (codes "100" ++ word) ≡ unit header 2 word = rw (apart.0, apart.1) refl in
    number-is (λ number power. scale header (number ++ word) ≡ unit header power word) one ten hundred number power h ∙ unit-ok header power word of_unit k

-- ---- single words
command-remark : (header : Header) (word : List ℕ) → is_remark word ≡ true → command header word ≡ Ok (Text, header)
unfolding command
command-remark header word h = rw h refl

command-scale : (header : Header) → command header (codes "$timescale") ≡ Ok (Scale, header)
unfolding command
command-scale header = refl

command-scope : (header : Header) → command header (codes "$scope") ≡ Ok (ScopeKind, header)
unfolding command
command-scope header = refl

command-var : (header : Header) → command header (codes "$var") ≡ Ok (VarKind, header)
unfolding command
command-var header = refl

command-last : (header : Header) → command header (codes "$enddefinitions") ≡ Ok (Start, header)
unfolding command
command-last header = refl

command-leave : (after : Header) (name : List ℕ) → command (record after { scopes = after.scopes ++ name ∷ [] }) (codes "$upscope") ≡ Ok (Close, after)
unfolding command
command-leave after name =
    let len : length (after.scopes ++ name ∷ []) ≡ length after.scopes + 1 = length-append after.scopes (name ∷ []) in
    let some : (length (after.scopes ++ name ∷ []) == 0) ≡ false = grind (arith, nat_tests) in
    let less : length (after.scopes ++ name ∷ []) - 1 ≡ length after.scopes = omega arith in
    rw (some, less, take-append_seam after.scopes (name ∷ [])) refl

name-ok : (header : Header) (word : List ℕ) → is_end word ≡ false → scope_name header word ≡ Ok (Close, record header { scopes = header.scopes ++ word ∷ [] })
unfolding scope_name
name-ok header word h = rw h refl

width-ok : (word : List ℕ) → is_number word ≡ true → 1 ≤ digits_value 10 word → digits_value 10 word ≤ 128 → var_width word ≡ Ok (VarCode (digits_value 10 word))
width-ok word number least most =
    let narrow : nat_lt 128 (digits_value 10 word) ≡ false = grind (arith, nat_tests) in
    let some : (digits_value 10 word == 0) ≡ false = grind (arith, nat_tests) in
    rw (number, narrow, some) refl

code-ok : (before after : Header) (code : List ℕ) (width net : ℕ) → is_end code ≡ false → NamesNet code width net before after → var_code before width code ≡ Ok (VarName net, after)
unfolding var_code
code-ok before after code width net h names = by_names names.names
  where
    by_names : ((net_of before.nets code ≡ None) × (net ≡ length before.widths) × (after ≡ record before { nets = before.nets ++ code ∷ []; widths = before.widths ++ width ∷ [] })) ⊎ ((net_of before.nets code ≡ Some net) × (slice_get before.widths net ≡ Some width) × (after ≡ before)) → var_code before width code ≡ Ok (VarName net, after)
    by_names (inl e) = rw (h, e.0, e.1, e.2) refl
    by_names (inr e) =
        let wide : slice_index before.widths net ≡ width = get_or_from_slice_get before.widths net width 0 e.1 in
        let same : (width == width) ≡ true = grind (arith, nat_tests) in
        rw (h, e.0, wide, same, e.2) refl

var_name-ok : (header : Header) (net : ℕ) (word : List ℕ) → is_end word ≡ false → var_name header net word ≡ Ok (Text, record header { vars = header.vars ++ record { path = path_of header.scopes word; net = net } ∷ [] })
unfolding var_name
var_name-ok header net word h = rw h refl

-- ---- whole commands
module _ (body : Body) where
  heads : (word : List ℕ) (words : Words) (wanted next : Wanted) (header after : Header) → taken wanted header body word ≡ Ok (stand next after body) → walk (word ∷ words) (stand wanted header body) ≡ walk words (stand next after body)
  heads word words wanted next header after h = goes-to word words (stand wanted header body) (stand next after body) h

  text-walk : (text more : Words) (header : Header) → AreInner text → walk (text ++ codes "$end" ∷ more) (stand Text header body) ≡ walk more (stand Command header body)
  text-walk [] more header inside = refl
  text-walk (word ∷ text) more header inside =
      let next : taken Text header body word ≡ Ok (stand Text header body) = rw (head-inner word text inside) refl in
      heads word (text ++ codes "$end" ∷ more) Text Text header header next ∙ text-walk text more header (tail-inner word text inside)

  close-walk : (more : Words) (header : Header) → walk (codes "$end" ∷ more) (stand Close header body) ≡ walk more (stand Command header body)
  close-walk more header = refl

  abbrev Reads : Words → Header → Header → Type 0
  Reads words before after = (more : Words) → walk (words ++ codes "$end" ∷ more) (stand Command before body) ≡ walk more (stand Command after body)

  remark-reads : (words : Words) (before after : Header) → AreInner words → IsRemark words before after → Reads words before after
  remark-reads words before after inside e more =
      ap (λ ws. walk (ws ++ codes "$end" ∷ more) (stand Command before body)) e.spelled
      ∙ heads e.command (e.more ++ codes "$end" ∷ more) Command Text before before (ap (with_header body) (command-remark before e.command e.begins))
      ∙ text-walk e.more more before (tail-inner e.command e.more (subst AreInner e.spelled inside))
      ∙ ap (λ h. walk more (stand Command h body)) (sym e.same)

  scale-reads : (words : Words) (before after : Header) → IsScale words before after → Reads words before after
  scale-reads words before after e more = by_spelled e.spelled
    where
      closed : walk (codes "$end" ∷ more) (stand Close (scaled_by before (pos e.power +ℤ e.unit)) body) ≡ walk more (stand Command after body)
      closed = close-walk more (scaled_by before (pos e.power +ℤ e.unit)) ∙ ap (λ h. walk more (stand Command h body)) (sym e.holds)

      by_spelled : (words ≡ codes "$timescale" ∷ e.number ∷ e.of_unit ∷ []) ⊎ (words ≡ codes "$timescale" ∷ (e.number ++ e.of_unit) ∷ []) → walk (words ++ codes "$end" ∷ more) (stand Command before body) ≡ walk more (stand Command after body)
      by_spelled (inl is) =
          ap (λ ws. walk (ws ++ codes "$end" ∷ more) (stand Command before body)) is
          ∙ heads (codes "$timescale") (e.number ∷ e.of_unit ∷ codes "$end" ∷ more) Command Scale before before (ap (with_header body) (command-scale before))
          ∙ heads e.number (e.of_unit ∷ codes "$end" ∷ more) Scale (ScaleUnit e.power) before before (ap (with_header body) (number-ok before e.number e.power e.number_is))
          ∙ heads e.of_unit (codes "$end" ∷ more) (ScaleUnit e.power) Close before (scaled_by before (pos e.power +ℤ e.unit)) (ap (with_header body) (unit-ok before e.power e.of_unit e.unit e.unit_is))
          ∙ closed
      by_spelled (inr is) =
          ap (λ ws. walk (ws ++ codes "$end" ∷ more) (stand Command before body)) is
          ∙ heads (codes "$timescale") ((e.number ++ e.of_unit) ∷ codes "$end" ∷ more) Command Scale before before (ap (with_header body) (command-scale before))
          ∙ heads (e.number ++ e.of_unit) (codes "$end" ∷ more) Scale Close before (scaled_by before (pos e.power +ℤ e.unit)) (ap (with_header body) (both-ok before e.number e.of_unit e.power e.unit e.number_is e.unit_is))
          ∙ closed

  scope-reads : (words : Words) (before after : Header) → AreInner words → IsScope words before after → Reads words before after
  scope-reads words before after inside e more =
      let inner : AreInner (codes "$scope" ∷ e.kind ∷ e.name ∷ []) = subst AreInner e.spelled inside in
      let inner_kind : AreInner (e.kind ∷ e.name ∷ []) = tail-inner (codes "$scope") (e.kind ∷ e.name ∷ []) inner in
      let opened : Header = record before { scopes = before.scopes ++ e.name ∷ [] } in
      let kind : taken ScopeKind before body e.kind ≡ Ok (stand ScopeName before body) = rw (head-inner e.kind (e.name ∷ []) inner_kind) refl in
      ap (λ ws. walk (ws ++ codes "$end" ∷ more) (stand Command before body)) e.spelled
      ∙ heads (codes "$scope") (e.kind ∷ e.name ∷ codes "$end" ∷ more) Command ScopeKind before before (ap (with_header body) (command-scope before))
      ∙ heads e.kind (e.name ∷ codes "$end" ∷ more) ScopeKind ScopeName before before kind
      ∙ heads e.name (codes "$end" ∷ more) ScopeName Close before opened (ap (with_header body) (name-ok before e.name (head-inner e.name [] (tail-inner e.kind (e.name ∷ []) inner_kind))))
      ∙ close-walk more opened
      ∙ ap (λ h. walk more (stand Command h body)) (sym e.opens)

  upscope-reads : (words : Words) (before after : Header) → IsUpscope words before after → Reads words before after
  upscope-reads words before after e more =
      ap (λ ws. walk (ws ++ codes "$end" ∷ more) (stand Command before body)) e.spelled
      ∙ heads (codes "$upscope") (codes "$end" ∷ more) Command Close before after (ap (λ h. with_header body (command h (codes "$upscope"))) e.closes ∙ ap (with_header body) (command-leave after e.innermost))
      ∙ close-walk more after

  var-reads : (words : Words) (before after : Header) → AreInner words → IsVar words before after → Reads words before after
  var-reads words before after inside e more =
      let rest : Words = e.more ++ codes "$end" ∷ more in
      let inner_kind : AreInner (e.kind ∷ e.width ∷ e.code ∷ e.name ∷ e.more) = tail-inner (codes "$var") (e.kind ∷ e.width ∷ e.code ∷ e.name ∷ e.more) (subst AreInner e.spelled inside) in
      let inner_code : AreInner (e.code ∷ e.name ∷ e.more) = tail-inner e.width (e.code ∷ e.name ∷ e.more) (tail-inner e.kind (e.width ∷ e.code ∷ e.name ∷ e.more) inner_kind) in
      let inner_name : AreInner (e.name ∷ e.more) = tail-inner e.code (e.name ∷ e.more) inner_code in
      let named : Header = record e.middle { vars = e.middle.vars ++ record { path = path_of e.middle.scopes e.name; net = e.net } ∷ [] } in
      let kind : taken VarKind before body e.kind ≡ Ok (stand VarWidth before body) = rw (head-inner e.kind (e.width ∷ e.code ∷ e.name ∷ e.more) inner_kind, e.has_values) refl in
      let width : taken VarWidth before body e.width ≡ Ok (stand (VarCode (digits_value 10 e.width)) before body) = ap (λ next. with_header body (beside before next)) (width-ok e.width e.digits e.least e.most) in
      ap (λ ws. walk (ws ++ codes "$end" ∷ more) (stand Command before body)) e.spelled
      ∙ heads (codes "$var") (e.kind ∷ e.width ∷ e.code ∷ e.name ∷ rest) Command VarKind before before (ap (with_header body) (command-var before))
      ∙ heads e.kind (e.width ∷ e.code ∷ e.name ∷ rest) VarKind VarWidth before before kind
      ∙ heads e.width (e.code ∷ e.name ∷ rest) VarWidth (VarCode (digits_value 10 e.width)) before before width
      ∙ heads e.code (e.name ∷ rest) (VarCode (digits_value 10 e.width)) (VarName e.net) before e.middle (ap (with_header body) (code-ok before e.middle e.code (digits_value 10 e.width) e.net (head-inner e.code (e.name ∷ e.more) inner_code) e.names))
      ∙ heads e.name rest (VarName e.net) Text e.middle named (ap (with_header body) (var_name-ok e.middle e.net e.name (head-inner e.name e.more inner_name)))
      ∙ text-walk e.more more named (tail-inner e.name e.more inner_name)
      ∙ ap (λ h. walk more (stand Command h body)) (sym e.declares)

  command-reads : (words : Words) (before after : Header) → AreInner words → IsCommand words before after → Reads words before after
  command-reads words before after inside (inl e) = remark-reads words before after inside e
  command-reads words before after inside (inr (inl e)) = scale-reads words before after e
  command-reads words before after inside (inr (inr (inl e))) = scope-reads words before after inside e
  command-reads words before after inside (inr (inr (inr (inl e)))) = upscope-reads words before after e
  command-reads words before after inside (inr (inr (inr (inr e)))) = var-reads words before after inside e

  pub commands-walk : (commands : List Words) (before after : Header) → AreCommands commands before after → (more : Words) → walk (flat_map ended commands ++ more) (stand Command before body) ≡ walk more (stand Command after body)
  commands-walk [] before after h more = ap (λ header. walk more (stand Command header body)) (sym h)
  commands-walk (words ∷ commands) before after (inside, middle, first, rest) more =
      ap (λ ws. walk ws (stand Command before body)) (append_assoc (words ++ codes "$end" ∷ []) (flat_map ended commands) more ∙ append_assoc words (codes "$end" ∷ []) (flat_map ended commands ++ more))
      ∙ command-reads words before middle inside first (flat_map ended commands ++ more)
      ∙ commands-walk commands middle after rest more

  -- `$enddefinitions` and its `$end` lead to the body
  pub last-walk : (header : Header) (more : Words) → walk (codes "$enddefinitions" ∷ codes "$end" ∷ more) (stand Command header body) ≡ walk more (stand Entry header body)
  last-walk header more = heads (codes "$enddefinitions") (codes "$end" ∷ more) Command Start header header (ap (with_header body) (command-last header))
