mod BandRows
