-- `picture::svq3_picture::copy_macroblock_from` meets its contract: three copies, each inside its plane.
use lib.Dec.{lit<, lit≤}
use Rattle.picture.proofs.Laws.{plane-inside}
use borrow.Author.Rules.{rules}
use Rattle.picture.proofs.svq3_picture.copy_macroblock_from.Goals as goal

pub copy_block-requires : goal.copy_block-requires
copy_block-requires c = (lit≤ tt, plane-inside 16 (lit< tt) c.requires.within (search rules), plane-inside 16 (lit< tt) c.requires.within (search rules))

pub copy_block-requires-2 : goal.copy_block-requires-2
copy_block-requires-2 c = (lit≤ tt, plane-inside 8 (lit< tt) c.requires.within (search rules), plane-inside 8 (lit< tt) c.requires.within (search rules))

pub copy_block-requires-3 : goal.copy_block-requires-3
copy_block-requires-3 c = (lit≤ tt, plane-inside 8 (lit< tt) c.requires.within (search rules), plane-inside 8 (lit< tt) c.requires.within (search rules))
