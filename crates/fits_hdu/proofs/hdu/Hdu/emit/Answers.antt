use Rattle.fits_hdu.proofs.hdu.Hdu.emit.Goals as goal

-- the cards of the header are read, and nothing changes
pub invariant_of-self : goal.invariant_of-self
invariant_of-self g c =
    let kept = c.self.invariant in
    let read = c.emit.ensures.work in
    record {
      described = rw (read.header, read.shape) kept.described;
      size = rw read.shape kept.size;
      layout = rw (read.header, read.shape) kept.layout;
      mark = rw (read.header, read.shape) kept.mark;
      kind = rw (read.header, read.shape) kept.kind;
      sums = rw read.header kept.sums;
    }

pub invariant_of-self-2 : goal.invariant_of-self-2
invariant_of-self-2 g c =
    let kept = c.self.invariant in
    let read = c.emit.ensures.work in
    record {
      described = rw (read.header, read.shape) kept.described;
      size = rw read.shape kept.size;
      layout = rw (read.header, read.shape) kept.layout;
      mark = rw (read.header, read.shape) kept.mark;
      kind = rw (read.header, read.shape) kept.kind;
      sums = rw read.header kept.sums;
    }
