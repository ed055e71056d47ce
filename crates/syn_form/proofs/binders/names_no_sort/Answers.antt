use Rattle.syn_form.proofs.FreeNames.{no_sort_named}
use Rattle.syn_form.proofs.binders.names_no_sort.Goals as goal

pub returns : goal.returns
returns c = no_sort_named c.args.syms.now c.args.name.now c.requires c.find_sort.result c.is_none.result c.is_none.ensures c.find_sort.ensures.named
