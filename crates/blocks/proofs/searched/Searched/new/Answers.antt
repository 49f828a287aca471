use Rattle.blocks.specs.Works.Laws.{kind_buffering, kind_matching, ready_of}
use Rattle.blocks.proofs.searched.Searched.new.Goals as goal

pub readers-readers-requires : goal.readers-readers-requires
readers-readers-requires c = kind_matching _ _ c.args.table.now.obeys _ c.requires

pub invariant_of-result : goal.invariant_of-result
invariant_of-result c = record {
  sorted = c.requires;
  ready = ready_of _ _ c.args.table.now.obeys _ c.requires _ c.index.ensures;
  buffers = kind_buffering _ _ c.args.table.now.obeys _ c.requires;
  reads = c.readers-readers.ensures;
}
