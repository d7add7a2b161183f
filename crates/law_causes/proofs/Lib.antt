mod OfCauses
