use Rattle.std.proofs.Common.{◌≡◌, ◌++◌, map, length, vec_items}
use Rattle.std.specs.Iterator.Adapters.{enumerate_source, enumerate_count}
use Rattle.logs.proofs.reading.read_log.Given as goal
use Rattle.logs.specs.Logs.{lines}

abbrev pub invariant-loop-before : goal.invariant-loop-before
invariant-loop-before g l = record {
  rest : lines l.log ≡ map g.L.Line.text (vec_items l.said) ++ lines (enumerate_source l.before-iterator).0.now;
  count : enumerate_count l.before-iterator ≡ length (vec_items l.said);
}
