-- A small dump is one of ours.
use Rattle.std.proofs.Common.{◌≡◌, ℕ, ◌<◌, ◌≤◌, true, [], ◌∷◌, refl, arith, inl, codes}
use Rattle.std.specs.Prelude.{pos}
use Rattle.std.proofs.lemmas.List.Elements.{All-nil, All-cons}
use Rattle.std.specs.Fmt.{digits}
use Rattle.four_state.specs.declared.bits.Bit.TheVariants.{Zero, One, Unknown}
use Rattle.vcd_write.specs.declared.types.TheConstants.{NO_SCOPE}
use Rattle.vcd_write.specs.declared.types.ScopeWord.TheVariants.{Module}
use Rattle.vcd_write.specs.declared.types.VarWord.TheVariants.{Reg}
use Rattle.vcd_write.specs.declared.types.DumpItem.{DumpItem}
use Rattle.vcd_write.specs.declared.types.DumpScope.{DumpScope}
use Rattle.vcd_write.specs.declared.types.Section.TheVariants.{Vars}
use Rattle.vcd_write.specs.Code.{code}
use Rattle.vcd_write.specs.Value.{shortest, spelling_text, value_line}
use Rattle.vcd_write.specs.Section.{lines_of, section_text, time_text}
use Rattle.vcd_write.specs.Header.{size, header_text, time_unit, held_by, var_kind, var_line, var_pieces, scope_line, scope_block, scope_pieces}
use Rattle.vcd_law.specs.Own.{Time, Values, Lines, IsHead, IsOwn, is_plain}

abbrev tb : DumpScope
tb = record { word = Module; name = codes "tb"; parent = NO_SCOPE }

abbrev a : DumpItem
a = record { word = Reg; name = codes "a"; scope = 0; msb = pos 1; lsb = pos 0 }

head : IsHead (pos 0) (tb ∷ []) (a ∷ [])
head = record {
  least = record { le = tt };
  most = record { le = tt };
  nested = (inl refl, tt);
  inside = All-cons (λ (item : DumpItem). item.scope < 1) a [] (omega arith) (All-nil (λ (item : DumpItem). item.scope < 1));
  few = omega arith;
  sizes = All-cons (λ (item : DumpItem). size item ≤ 128) a [] (omega arith) (All-nil (λ (item : DumpItem). size item ≤ 128));
  scope_names = All-cons (λ (scope : DumpScope). is_plain scope.name ≡ true) tb [] refl (All-nil (λ (scope : DumpScope). is_plain scope.name ≡ true));
  item_names = All-cons (λ (item : DumpItem). is_plain item.name ≡ true) a [] refl (All-nil (λ (item : DumpItem). is_plain item.name ≡ true));
}

pub small-own : IsOwn (codes "$version vvp profile P1 $end\n$timescale 1s $end\n$scope module tb $end\n$var reg 2 ! a [1:0] $end\n$upscope $end\n$enddefinitions $end\n#0\n$dumpvars\nbx !\n$end\n#5\nb1 !\n")
unfolding header_text time_unit held_by var_kind var_line var_pieces scope_line scope_block scope_pieces lines_of section_text time_text shortest spelling_text value_line code digits
small-own = record {
  power = pos 0;
  scopes = tb ∷ [];
  items = a ∷ [];
  parts = Time 0 ∷ Values Vars ((Unknown ∷ Unknown ∷ []) ∷ []) ∷ Time 5 ∷ Lines ((One ∷ Zero ∷ []) ∷ []) (0 ∷ []) ∷ [];
  head = head;
  follow = (omega arith, omega arith, (refl, (omega arith, omega arith, (refl, All-cons (λ (place : ℕ). place < 1) 0 [] (omega arith) (All-nil (λ (place : ℕ). place < 1)), tt))));
  spelled = refl;
}
