use Rattle.std.proofs.Common.{rules}
use Rattle.tree_face.proofs.Disks.{image_by, left_by_bits}
use Rattle.tree_face.proofs.memory.disks.MemDisk.image.Goals as goal

pub returns-clause-image : goal.returns-clause-image
returns-clause-image c =
    image_by c.args.self.now c.new-2.result c.args.choice c.new-2.ensures.rest (left_by_bits c.args.self.now c.new-2.result c.args.choice (search rules) (search rules) (search rules))
