-- A text that pads with spaces is trimmed, another is kept whole.
use Rattle.reading.proofs.value.Loads.{text-kept, text-trimmed}
use Rattle.reading.proofs.value.text_len.Goals as goal

pub returns-then-pad-eq32 : goal.returns-then-pad-eq32
returns-then-pad-eq32 c =
    text-trimmed c.args.bytes.now c.args.at c.args.pad c.args.n c.trimmed_len.result c.if-pad-eq32.true c.trimmed_len.ensures

pub returns-else-pad-eq32 : goal.returns-else-pad-eq32
returns-else-pad-eq32 c = text-kept _ _ _ _ c.if-pad-eq32.false
