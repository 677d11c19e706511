use Rattle.std.proofs.Common.{◌≡◌, ◌∙◌, [], ◌∷◌, length, map, replicate, ap}
use Rattle.std.proofs.lemmas.Result.{IfOk-weaker}
use Rattle.four_state.specs.declared.bits.Bit.TheVariants.{Unknown}
use Rattle.vcd_write.specs.Header.{size}
use Rattle.vcd_write.proofs.SizeLemmas.{lengths-unknown}
use Rattle.vcd_write.proofs.tests.started.Goals as goal

pub returns : goal.returns
returns c =
    IfOk-weaker c.start.result (λ dump. dump ≡ map (λ item. replicate (size item) Unknown) c.in_ok-items.items) (λ dump. map length dump ≡ 4 ∷ 1 ∷ 3 ∷ [])
    (λ dump e. ap (map length) e ∙ (lengths-unknown c.in_ok-items.items ∙ c.in_ok-items.ensures.widths)) c.start.ensures.unknown
